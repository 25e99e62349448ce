-- The oldest mark stands at the loaded plans, whose points have not risen since.
use Rattle.std.proofs.Common.{◌<◌, ◌∙◌, All, arith, length, refl, subst, sym}
use Rattle.std.proofs.lemmas.Bool.{not-true}
use Rattle.std.proofs.lemmas.Bool.Decides.{nat_tests}
use Rattle.std.proofs.lemmas.Option.{slice_get_read}
use Rattle.tp_placing.specs.Boards.{BoardValue}
use Rattle.tp_placing.specs.Inside.{board_of}
use Rattle.tp_placing.specs.Settled.{HasLeastPoints}
use Rattle.tp_placing.proofs.SettledFacts.{settled-still}
use Rattle.tp_placing.proofs.board.Board.is_settled_still.Goals as goal

pub returns : goal.returns
returns g c so =
    let a = c.self.inside in
    let stands = rw (← c.self.view_is) at c.requires in
    let some : 0 < length c.self.inside.marks.items = (let e = sym c.is_empty.ensures ∙ c.if-is_empty.false in let n = a.marks.ok.0 in grind (arith, nat_tests)) in
    let first = slice_get_read a.marks.items (length a.marks.items) 0 c.index.result.now refl some c.index.ensures in
    subst (λ (b : BoardValue g.row.N.Denot). All (HasLeastPoints (g.N.Network.reading.net b.net) b.plans) b.plans) c.self.view_is
    (settled-still g.N.Network.reading (board_of a.net a.timelines a.held.items a.plans.items a.firsts.items a.last a.floor a.horizon a.ask a.steps.items a.marks.items a.made_for a.causes a.limit a.settled)
    stands.0 stands.1.0 stands.1.1 c.if-not-self.false c.index.result.now first (omega (arith, c.if-index-gt0.false)) (sym c.self.invariant.marked.board_marks) (c.self.invariant.marked.line_marks ∙ sym c.self.invariant.marked.board_marks)
    (c.may_have_risen.ensures (not-true c.may_have_risen.result so)))
