use Rattle.std.proofs.Common.{arith, ap, length, subst, sym, ◌∙◌, ◌<◌}
use Rattle.std.specs.Prelude.{IfSome}
use Rattle.tp_base.proofs.LeastFacts.{mut_items}
use Rattle.tp_windows.specs.Arrays.{IsBetween}
use Rattle.tp_windows.specs.Halves.{IsSide}
use Rattle.tp_windows.specs.Sides.{IsOnSide}
use Rattle.tp_windows.proofs.root.come_before.Goals as goal

pub returns-then-last-index-clause-kept : goal.returns-then-last-index-clause-kept
returns-then-last-index-clause-kept c = λ y before sides.
    let lows = c.args.ranges.now.lows.items in
    let highs = c.args.ranges.now.highs in
    let side = c.in-Some.side in
    let on : IsOnSide y side = subst (λ o. IfSome o (IsOnSide y)) c.in-Some.is sides in
    let less : y side.point.0 < side.tick = subst (λ l. IsSide l side.tick (y side.point.0)) c.if-side.false on in
    let is = mut_items highs.len c.lower_one.new.highs highs.items (c.lower_one.auto.highs ∙ ap length c.deref_mut.ensures.value ∙ sym highs.ok.0) in
    let before' = subst (λ a. IsBetween y a c.deref_mut.result.now) (sym c.deref.ensures.value) (subst (λ b. IsBetween y lows b) (sym c.deref_mut.ensures.value) before) in
    subst (λ b. IsBetween y lows b) (sym is) (subst (λ a. IsBetween y a c.lower_one.new.highs) c.deref.ensures.value (c.lower_one.ensures.between y before' (omega (arith, less))))
