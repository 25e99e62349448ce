use Rattle.tp_constraints.proofs.SayFacts.{exact_says, plan_says, says_loaded, shape_says}
use Rattle.tp_constraints.proofs.growth.moments_move_bounds.Goals as goal

pub returns-clause-exact : goal.returns-clause-exact
returns-clause-exact c = exact_says

pub returns-clause-loaded : goal.returns-clause-loaded
returns-clause-loaded c = says_loaded

pub returns-clause-plan : goal.returns-clause-plan
returns-clause-plan c = plan_says

pub returns-clause-shape : goal.returns-clause-shape
returns-clause-shape c = shape_says
