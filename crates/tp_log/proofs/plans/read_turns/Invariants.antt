use Rattle.std.proofs.Common.{◌≡◌, ◌+◌, ◌≤◌, length}
use Rattle.tp_words.specs.Parts.{shown}
use Rattle.tp_log.specs.RecordReaders.{turns_of}
use Rattle.tp_log.proofs.Turns.{behind}
use Rattle.tp_log.proofs.plans.read_turns.Given as goal

abbrev pub decreases-loop-rest : goal.decreases-loop-rest
decreases-loop-rest l = length l.rest

abbrev pub invariant-loop-rest : goal.invariant-loop-rest
invariant-loop-rest l = record {
  reads : behind l.points l.acts (turns_of (shown l.rest)) ≡ turns_of (shown l.words);
  points_many : length l.points + length l.rest ≤ length l.words;
  acts_many : length l.acts + length l.rest ≤ length l.words;
}
