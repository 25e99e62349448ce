-- A list is held, so that the board is over the first one with that list.
use Rattle.std.proofs.Common.{subst}
use Rattle.tp_search.specs.HeldLists.{IsOver}
use Rattle.tp_search.proofs.held_list.lay_next.Goals as goal

pub lay_goal-requires-clause-over : goal.lay_goal-requires-clause-over
lay_goal-requires-clause-over g c = (c.requires.over.0, c.requires.over.1, c.requires.over.2, subst (IsOver g.N.Network.reading c.requires.over.0 c.args.board.now c.args.problem.machine.now c.args.problem.ask.now) c.in-Some.is c.requires.over.3)

pub returns-in-Goal-clause-since : goal.returns-in-Goal-clause-since
returns-in-Goal-clause-since g c b ready over = c.lay_goal.ensures.since b ready (subst (IsOver g.N.Network.reading b c.args.board.now c.args.problem.machine.now c.args.problem.ask.now) c.in-Some.is over)

pub lay_over_goal-requires-clause-over : goal.lay_over_goal-requires-clause-over
lay_over_goal-requires-clause-over g c = (c.requires.over.0, c.requires.over.1, c.requires.over.2, subst (IsOver g.N.Network.reading c.requires.over.0 c.args.board.now c.args.problem.machine.now c.args.problem.ask.now) c.in-Some.is c.requires.over.3)

pub returns-in-Node-2-clause-since : goal.returns-in-Node-2-clause-since
returns-in-Node-2-clause-since g c b ready over = c.lay_over_goal.ensures.since b ready (subst (IsOver g.N.Network.reading b c.args.board.now c.args.problem.machine.now c.args.problem.ask.now) c.in-Some.is over)
