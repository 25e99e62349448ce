use Rattle.std.proofs.Common.{◌≡◌, take}
use Rattle.tp_session_standing.proofs.restored_state.schedule_of.Given as goal

abbrev pub invariant-loop-plan : goal.invariant-loop-plan
invariant-loop-plan l = l.schedule.plans ≡ take l.plan-index l.fn.plans
