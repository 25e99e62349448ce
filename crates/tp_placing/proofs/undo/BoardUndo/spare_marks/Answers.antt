use Rattle.std.proofs.Common.{arith}
use Rattle.tp_placing.proofs.PastFacts.{length-side}
use Rattle.tp_placing.proofs.undo.BoardUndo.spare_marks.Goals as goal

pub returns : goal.returns
returns g c =
    let a = c.self.inside in
    let i = c.self.invariant.marked in
    let l = length-side a.held.items a.steps.items (g.N.Network.reading.past a.net) a.timelines.past a.marks.items i.line_marks i.board_marks in
    let s = i.spare in
    let e = c.spare_marks.ensures in
    let kept = g.met.N.Network.kept_by_marks in
    let count = kept.count a.net in
    let most = kept.capacity a.net in
    rw (← c.self.view_is) (omega arith)
