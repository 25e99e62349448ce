use Rattle.std.proofs.Common.{AllPairs, subst, sym}
use Rattle.tp_schedule.specs.Plans.{IsEarlier}
use Rattle.tp_placing.proofs.board.Board.is_fit.Goals as goal

pub are_later_live-requires : goal.are_later_live-requires
are_later_live-requires g c =
    let in_order = rw (← c.self.view_is) at c.requires.in_order in
    record { in_order = subst (AllPairs IsEarlier) (sym c.deref-else-self-gt-POINTS.ensures.value) in_order }
