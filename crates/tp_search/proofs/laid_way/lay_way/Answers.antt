use Rattle.tp_search.proofs.FurtherFacts.{found-further}
use Rattle.tp_search.proofs.WayFacts.{goal-carried, since-further, way-undone}
use Rattle.tp_search.proofs.laid_way.lay_way.Goals as goal

pub go_along-requires-clause-carries : goal.go_along-requires-clause-carries
go_along-requires-clause-carries g c = goal-carried g.N.Network.reading c.open_at.new.board c.args.problem.machine.now c.args.problem.ask.now c.args.goal c.in-Some.ensures.laid

pub returns-then-go_along-clause-found : goal.returns-then-go_along-clause-found
returns-then-go_along-clause-found g c is =
    found-further g.N.Network.reading c.args.board.now c.open_at.new.board c.go_along.new.board c.args.problem.machine.now c.args.problem.ask.now c.args.bound
    (since-further g.N.Network.reading c.args.board.now c.open_at.new.board c.args.problem.machine.now c.args.problem.ask.now c.in-Some.opened.base.0 c.in-Some.ensures.since) (c.go_along.ensures.found c.if-go_along.true)

pub returns-clause-back : goal.returns-clause-back
returns-clause-back g c none =
    let u = c.undo_to.ensures in
    way-undone g.N.Network.reading g.N.Undo.untouched c.marks_keep_boards.ensures.back c.args.board.now c.open_at.new.board c.go_along.new.board c.undo_to.new.self c.args.problem.machine.now c.args.problem.ask.now c.in-Some.opened.base.0
    c.in-Some.ensures.since c.go_along.ensures.further c.go_along.ensures.stands (record { content_then = u.content; past_less = u.past; untouched_same = u.untouched; room_same = u.capacity })
