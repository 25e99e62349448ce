use Rattle.std.proofs.Common.{◌≡◌, filter, take}
use Rattle.tp_schedule.specs.LivePlans.{is_live}
use Rattle.tp_placing.proofs.live_match.meet.Given as goal

abbrev pub invariant-loop-at : goal.invariant-loop-at
invariant-loop-at l = filter (is_live l.machine l.now) (take l.at l.plans.items) ≡ filter (is_live l.machine l.now) (take l.from l.plans.items)
