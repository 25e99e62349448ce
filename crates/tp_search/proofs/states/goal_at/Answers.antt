-- A goal state, if it has room.
use Rattle.tp_search.proofs.states.goal_at.Goals as goal

pub returns-in_err-room-clause-none : goal.returns-in_err-room-clause-none
returns-in_err-room-clause-none c = rw c.from_residual.ensures (λ is_goal. c.in_err-room.ensures.none)
