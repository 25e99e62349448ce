use Rattle.tp_search.proofs.BoardSteps.{IsMarked}
use Rattle.tp_search.proofs.HoldFacts.{back-spare, ready-marked, since-mark}
use Rattle.tp_search.proofs.held_list.mark_anew.Goals as goal
use Rattle.tp_search.proofs.held_list.mark_anew.Goals.{After-mark}

marked : (g : _) (c : After-mark g) → IsMarked g.N.Network.reading g.N.Undo.untouched c.take_off.new.board c.mark.new.self c.mark.result.0
marked g c = (let m = c.mark.ensures in record { number = m.number; past_more = m.past; content_same = m.content; untouched_same = m.untouched; room_same = m.capacity })

pub take_off-requires : goal.take_off-requires
take_off-requires g c = record { over = (c.requires.over.0, c.requires.over.1, c.requires.over.2, c.requires.over.4) }

pub mark-requires : goal.mark-requires
mark-requires g c =
    let over = c.requires.over in
    back-spare g.N.Network.reading over.0 c.take_off.new.board over.1 (c.take_off.ensures.back over.0 over.1 over.2 over.4) over.3

pub returns-clause-ready : goal.returns-clause-ready
returns-clause-ready g c b machine ask ready over =
    ready-marked g.N.Network.reading g.N.Undo.untouched c.marks_keep_boards.ensures.mark b c.take_off.new.board c.mark.new.self machine ask c.mark.result.0 ready (c.take_off.ensures.back b machine ask over) (marked g (goal.at.returns-clause-ready g c).After-mark)

pub returns-clause-since : goal.returns-clause-since
returns-clause-since g c b machine ask ready over =
    since-mark g.N.Network.reading g.N.Undo.untouched c.marks_keep_boards.ensures.mark b c.take_off.new.board c.mark.new.self machine ask c.mark.result.0 ready (c.take_off.ensures.back b machine ask over) (marked g (goal.at.returns-clause-since g c).After-mark)
