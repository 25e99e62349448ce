use Rattle.std.proofs.Common.{◌≡◌, ◌≤◌, ◌++◌, drop, length}
use Rattle.tp_event_records.proofs.answer_records.points_from.Given as goal

abbrev pub invariant-loop-at : goal.invariant-loop-at
invariant-loop-at l = record {
  rest : l.items ++ drop l.at l.points ≡ drop l.from l.points;
  few : length l.items ≤ l.at;
}
