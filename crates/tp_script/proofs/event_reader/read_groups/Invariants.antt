use Rattle.std.proofs.Common.{◌≡◌, length, drop}
use Rattle.tp_words.specs.Each.{each_read, with_front}
use Rattle.tp_words.specs.Parts.{shown}
use Rattle.tp_script.specs.EventReaders.{group_of, groups_of}
use Rattle.tp_script.proofs.event_reader.read_groups.Given as goal

abbrev pub invariant-loop-word : goal.invariant-loop-word
invariant-loop-word l = record {
  reads : with_front l.groups (each_read (λ word. group_of word.now) (drop l.word-index l.words)) ≡ groups_of (shown l.words);
  many : length l.groups ≡ l.word-index;
}
