use Rattle.std.proofs.Common.{◌≡◌, ◌≤◌, ◌++◌, drop, length, map}
use Rattle.tp_event_rules.specs.Labels.{action_name}
use Rattle.tp_event_records.proofs.answer_records.names_from.Given as goal

abbrev pub invariant-loop-at : goal.invariant-loop-at
invariant-loop-at l = record {
  rest : l.items ++ map (action_name l.machine) (drop l.at l.acts) ≡ map (action_name l.machine) (drop l.from l.acts);
  few : length l.items ≤ l.at;
}
