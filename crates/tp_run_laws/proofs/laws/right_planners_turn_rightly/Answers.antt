use Rattle.tp_run_laws.proofs.Carry.{right_turns}
use Rattle.tp_run_laws.proofs.laws.right_planners_turn_rightly.Goals as goal

pub returns : goal.returns
returns g c = right_turns g.P.Planner.rules
