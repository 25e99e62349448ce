use Rattle.std.proofs.Common.{arith}
use Rattle.tp_search.proofs.BoardSteps.{IsMarked}
use Rattle.tp_search.proofs.RootFacts.{goal-marked, root-marked}
use Rattle.tp_search.proofs.held_list.mark_goal.Goals as goal
use Rattle.tp_search.proofs.held_list.mark_goal.Goals.{After-mark-mark}

marked : (g : _) (c : After-mark-mark g) → IsMarked g.N.Network.reading g.N.Undo.untouched c.args.board.now c.mark-mark.new.self c.mark-mark.result.0
marked g c = (let m = c.mark-mark.ensures in record { number = m.number; past_more = m.past; content_same = m.content; untouched_same = m.untouched; room_same = m.capacity })

pub returns-clause-laid : goal.returns-clause-laid
returns-clause-laid g c machine ask laid =
    goal-marked g.N.Network.reading g.N.Undo.untouched c.marks_keep_boards.ensures.mark c.args.board.now c.mark-mark.new.self machine ask (record { mark = c.mark-mark.result; goal = c.args.goal }) laid (marked g (goal.at.returns-clause-laid g c).After-mark-mark)

pub returns-clause-since : goal.returns-clause-since
returns-clause-since g c b machine ask base laid since =
    root-marked g.N.Network.reading g.N.Undo.untouched c.marks_keep_boards.ensures.mark c.args.board.now c.mark-mark.new.self machine ask (record { mark = c.mark-mark.result; goal = c.args.goal }) laid (marked g (goal.at.returns-clause-since g c).After-mark-mark) b base since (omega (arith, c.spare_marks.ensures))
