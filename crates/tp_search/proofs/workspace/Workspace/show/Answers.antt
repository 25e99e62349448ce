use Rattle.tp_search.proofs.AnswerFacts.{known-goal}
use Rattle.tp_search.proofs.AskedFacts.{asked-known}
use Rattle.tp_search.proofs.ShowFacts.{back-shown, kept-few, loaded-named}
use Rattle.tp_search.proofs.workspace.Workspace.show.Goals as goal

pub fill-requires-clause-origin : goal.fill-requires-clause-origin
fill-requires-clause-origin g c = asked-known c.args.machine.now c.requires.loaded.0 c.args.ask.now c.requires.loaded.1.can_ask.asked

pub show_limit-requires-clause-set : goal.show_limit-requires-clause-set
show_limit-requires-clause-set g c = record { stands = c.requires.ready.stands; asked = c.requires.ready.asked; goal = known-goal c.args.machine.now c.requires.loaded.0 c.args.ask.now c.requires.loaded.1.can_ask }

pub show_limit-requires-clause-named : goal.show_limit-requires-clause-named
show_limit-requires-clause-named g c = loaded-named c.args.machine.now c.requires.loaded.0 c.args.ask.now c.args.board.now.plans c.requires.loaded.1

pub show_limit-requires-clause-origin : goal.show_limit-requires-clause-origin
show_limit-requires-clause-origin g c = asked-known c.args.machine.now c.requires.loaded.0 c.args.ask.now c.requires.loaded.1.can_ask.asked

pub show_limit-requires-clause-kept : goal.show_limit-requires-clause-kept
show_limit-requires-clause-kept g c = kept-few g.N.Network.reading c.args.board.now c.args.machine.now c.args.ask.now c.requires.ready

pub returns-clause-back : goal.returns-clause-back
returns-clause-back g c = back-shown g.N.Network.reading c.args.board.now c.show_limit.new.board c.args.machine.now c.show_limit.ensures.back
