use Rattle.std.proofs.Common.{subst}
use Rattle.tp_schedule.specs.Choices.{OpensTo}
use Rattle.tp_search.proofs.BoardSteps.{IsMarked, back-itself}
use Rattle.tp_search.proofs.DiveSteps.{carries-now}
use Rattle.tp_search.proofs.FurtherFacts.{found-further, further-marked, further-undone}
use Rattle.tp_search.proofs.dives.ends_by.Goals as goal
use Rattle.tp_search.proofs.dives.ends_by.Goals.{After-mark-mark}

-- the board was marked
marked : (g : _) (c : After-mark-mark g) → IsMarked g.N.Network.reading g.N.Undo.untouched c.args.board.now c.mark-mark.new.self c.mark-mark.result.0
marked g c = (let m = c.mark-mark.ensures in record { number = m.number; past_more = m.past; content_same = m.content; untouched_same = m.untouched; room_same = m.capacity })

pub go_down-found-requires-clause-carries : goal.go_down-found-requires-clause-carries
go_down-found-requires-clause-carries g c =
    let m = marked g (goal.at.go_down-found-requires-clause-carries g c).After-mark-mark in
    carries-now g.N.Network.reading g.N.Undo.untouched c.args.problem.machine.now c.args.problem.ask.now c.args.board.now c.args.board.now c.mark-mark.new.self c.mark-mark.result.0 c.marks_keep_boards.ensures.mark (back-itself g.N.Network.reading c.args.board.now c.args.problem.machine.now) m c.args.list c.requires.carries

pub returns-clause-met : goal.returns-clause-met
returns-clause-met g c is =
    let m = marked g (goal.at.returns-clause-met g c).After-mark-mark in
    let found = found-further g.N.Network.reading c.args.board.now c.mark-mark.new.self c.go_down-found.new.board c.args.problem.machine.now c.args.problem.ask.now c.args.bound (further-marked g.N.Network.reading g.N.Undo.untouched c.args.board.now c.mark-mark.new.self c.mark-mark.result.0 m) (c.go_down-found.ensures.found is) in (
      found.list,
      found.complete,
      record { end = found.end; opens = subst (λ ps. OpensTo c.args.problem.machine.now ps c.args.problem.ask.now found.list found.end) found.further.loaded.plans found.is_bound.opens; within = found.in_time },
    )

pub returns-clause-back : goal.returns-clause-back
returns-clause-back g c =
    let m = marked g (goal.at.returns-clause-back g c).After-mark-mark in
    let u = c.undo_to.ensures in
    further-undone g.N.Network.reading g.N.Undo.untouched c.args.board.now c.mark-mark.new.self c.go_down-found.new.board c.mark-mark.result.0 m c.go_down-found.ensures.further c.marks_keep_boards.ensures.back c.undo_to.new.self
    c.args.problem.machine.now c.go_down-found.ensures.stands (record { content_then = u.content; past_less = u.past; untouched_same = u.untouched; room_same = u.capacity })
