-- The list begins at a location of the machine.
use Rattle.tp_search.proofs.LeadFacts.{laid-known}
use Rattle.tp_search.proofs.dives.step_nearest.Goals as goal

pub nearest_to-requires-clause-known : goal.nearest_to-requires-clause-known
nearest_to-requires-clause-known g c =
    laid-known g.N.Network.reading c.args.board.now c.args.problem.machine.now c.args.problem.ask.now c.requires.carries.goal c.args.list.first c.requires.carries.choices c.requires.carries.laid c.requires.posed.origin
