use Rattle.tp_compose.proofs.Rows.{the_pair}
use Rattle.tp_compose.proofs.WalkLaw.{route_is_walk, walk_is_route}
use Rattle.tp_compose.proofs.laws.walks_are_routes.Goals as goal

pub returns-clause-one_pair : goal.returns-clause-one_pair
returns-clause-one_pair c = λ r m is act a at. the_pair r m is act a at

pub returns-clause-routes : goal.returns-clause-routes
returns-clause-routes c = λ r m is sheet acts xs are. (route_is_walk r m is sheet acts xs are, walk_is_route r m is sheet acts xs are)
