use Rattle.std.proofs.Common.{◌≡◌, true, take, All}
use Rattle.tp_schedule.specs.LivePlans.{is_live}
use Rattle.tp_placing.proofs.live_match.are_live.Given as goal

abbrev pub invariant-loop-plan : goal.invariant-loop-plan
invariant-loop-plan l = All (λ p. is_live l.machine l.now p ≡ true) (take l.plan-index l.plans)
