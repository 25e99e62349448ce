use Rattle.std.proofs.Common.{◌≡◌, ◌++◌, flat_map, take}
use Rattle.tp_event_rules.specs.Clock.{deliveries}
use Rattle.tp_release.proofs.plan_records.tell_all_done.Given as goal

abbrev pub invariant-loop-at : goal.invariant-loop-at
invariant-loop-at l = l.told.items ≡ l.fn.told.items ++ flat_map (deliveries l.machine l.now l.to) (take l.at l.schedule.plans)
