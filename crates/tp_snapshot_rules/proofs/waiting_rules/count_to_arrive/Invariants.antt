use Rattle.std.proofs.Common.{◌≡◌, ◌≤◌, count_by, take}
use Rattle.tp_event_rules.specs.StateInvariants.{is_to_arrive}
use Rattle.tp_snapshot_rules.proofs.waiting_rules.count_to_arrive.Given as goal

abbrev pub invariant-loop-plan : goal.invariant-loop-plan
invariant-loop-plan l = record {
  count : l.count ≡ count_by (is_to_arrive l.fn.now) (take l.plan-index l.fn.plans);
  within : l.count ≤ l.plan-index;
}
