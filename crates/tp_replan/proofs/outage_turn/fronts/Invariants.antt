use Rattle.std.proofs.Common.{◌≡◌, take}
use Rattle.tp_event_rules.specs.Seen.{fronts_of}
use Rattle.tp_replan.proofs.outage_turn.fronts.Given as goal

abbrev pub invariant-loop-at : goal.invariant-loop-at
invariant-loop-at l = l.copies.items ≡ fronts_of (take l.at l.schedule.plans)
