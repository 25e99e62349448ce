use Rattle.std.proofs.Common.{◌≡◌, drop, filter}
use Rattle.tp_schedule.specs.LivePlans.{is_live}
use Rattle.tp_placing.proofs.live_match.are_over.Given as goal

abbrev pub invariant-loop-at : goal.invariant-loop-at
invariant-loop-at l = filter (is_live l.machine l.now) (drop l.at l.plans) ≡ filter (is_live l.machine l.now) (drop l.from l.plans)
