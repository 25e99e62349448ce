use Rattle.tp_placing.proofs.PartFacts.{part-refutes}
use Rattle.tp_placing.proofs.board.Board.reason.Goals as goal

pub returns : goal.returns
returns g c net s =
    let shown = rw (← c.self.view_is) at s.shown in
    part-refutes s.late net s.part c.proof.result (c.proof.ensures s.late shown)
