use Rattle.std.proofs.Common.{◌≡◌, ◌++◌, flat_map, take}
use Rattle.tp_event_rules.specs.Clock.{releases}
use Rattle.tp_release.proofs.plan_records.tell_all_releases.Given as goal

abbrev pub invariant-loop-at : goal.invariant-loop-at
invariant-loop-at l = l.told.items ≡ l.fn.told.items ++ flat_map (releases l.machine l.to) (take l.at l.schedule.plans)
