use Rattle.std.proofs.Common.{◌≡◌, length, drop}
use Rattle.tp_words.specs.Each.{each_read, with_front}
use Rattle.tp_words.specs.Parts.{shown}
use Rattle.tp_words.specs.Numbers.{number_of}
use Rattle.tp_log.proofs.plans.read_points.Given as goal

abbrev pub invariant-loop-word : goal.invariant-loop-word
invariant-loop-word l = record {
  reads : with_front l.points (each_read (λ word. number_of word.now) (drop l.word-index l.words)) ≡ each_read number_of (shown l.words);
  many : length l.points ≡ l.word-index;
}
