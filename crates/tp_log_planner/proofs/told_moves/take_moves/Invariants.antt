use Rattle.tp_log_planner.proofs.MoveSteps.{MovedSoFar}
use Rattle.tp_log_planner.proofs.told_moves.take_moves.Given as goal

abbrev pub invariant-plans : goal.invariant-plans
invariant-plans l = MovedSoFar l.machine l.moving.moment l.moving.asked l.before.plans l.after.plans l.items l.at l.taken
