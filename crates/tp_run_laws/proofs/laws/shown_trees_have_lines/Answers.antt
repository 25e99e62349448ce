use Rattle.tp_run_laws.proofs.Carry.{trees-have_lines}
use Rattle.tp_run_laws.proofs.laws.shown_trees_have_lines.Goals as goal

pub returns : goal.returns
returns g c = trees-have_lines g.P.Planner.rules
