use Rattle.std.proofs.Common.{◌≡◌, ◌+◌, ◌≤◌, length}
use Rattle.tp_why.specs.Answers.{place_after, place_from}
use Rattle.tp_why.proofs.machine_answer.place_after.Given as goal

abbrev pub invariant-bytes : goal.invariant-bytes
invariant-bytes l = record {
  lines : l.line + length l.rest ≤ length l.before + 1;
  columns : l.column + length l.rest ≤ length l.before + 1;
  reached : place_from (l.line, l.column) l.rest ≡ place_after l.before;
}

abbrev pub decreases-bytes : goal.decreases-bytes
decreases-bytes l = length l.rest
