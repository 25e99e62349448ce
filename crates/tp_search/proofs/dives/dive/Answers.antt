use Rattle.tp_search.proofs.BoardSteps.{IsMarked, back-itself}
use Rattle.tp_search.proofs.DiveSteps.{carries-now}
use Rattle.tp_search.proofs.FurtherFacts.{found-further, further-marked, further-undone}
use Rattle.tp_search.proofs.dives.dive.Goals as goal
use Rattle.tp_search.proofs.dives.dive.Goals.{After-mark-mark}

-- the board was marked
marked : (g : _) (c : After-mark-mark g) → IsMarked g.N.Network.reading g.N.Undo.untouched c.args.board.now c.mark-mark.new.self c.mark-mark.result.0
marked g c = (let m = c.mark-mark.ensures in record { number = m.number; past_more = m.past; content_same = m.content; untouched_same = m.untouched; room_same = m.capacity })

pub go_down-requires-clause-carries : goal.go_down-requires-clause-carries
go_down-requires-clause-carries g c =
    let m = marked g (goal.at.go_down-requires-clause-carries g c).After-mark-mark in
    carries-now g.N.Network.reading g.N.Undo.untouched c.args.problem.machine.now c.args.problem.ask.now c.args.board.now c.args.board.now c.mark-mark.new.self c.mark-mark.result.0 c.marks_keep_boards.ensures.mark (back-itself g.N.Network.reading c.args.board.now c.args.problem.machine.now) m c.args.list c.requires.carries

pub returns-then-go_down-clause-found : goal.returns-then-go_down-clause-found
returns-then-go_down-clause-found g c is =
    let m = marked g (goal.at.returns-then-go_down-clause-found g c).After-mark-mark in
    found-further g.N.Network.reading c.args.board.now c.mark-mark.new.self c.go_down.new.board c.args.problem.machine.now c.args.problem.ask.now c.args.bound (further-marked g.N.Network.reading g.N.Undo.untouched c.args.board.now c.mark-mark.new.self c.mark-mark.result.0 m) (c.go_down.ensures.found c.if-go_down.true)

pub returns-clause-back : goal.returns-clause-back
returns-clause-back g c none =
    let m = marked g (goal.at.returns-clause-back g c).After-mark-mark in
    let u = c.undo_to.ensures in
    further-undone g.N.Network.reading g.N.Undo.untouched c.args.board.now c.mark-mark.new.self c.go_down.new.board c.mark-mark.result.0 m c.go_down.ensures.further c.marks_keep_boards.ensures.back c.undo_to.new.self
    c.args.problem.machine.now c.go_down.ensures.stands (record { content_then = u.content; past_less = u.past; untouched_same = u.untouched; room_same = u.capacity })
