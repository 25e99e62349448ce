use Rattle.std.proofs.Common.{◌≡◌, length, drop}
use Rattle.tp_words.specs.Each.{each_read, with_front}
use Rattle.tp_words.specs.Parts.{shown}
use Rattle.tp_bounds.specs.Lines.{hops_of}
use Rattle.tp_bounds.specs.Words.{hop_of}
use Rattle.tp_bounds.proofs.close_reader.read_hops.Given as goal

abbrev pub invariant-loop-word : goal.invariant-loop-word
invariant-loop-word l = record {
  reads : with_front l.hops (each_read (λ word. hop_of word.now) (drop l.word-index l.words)) ≡ hops_of (shown l.words);
  many : length l.hops ≡ l.word-index;
}
