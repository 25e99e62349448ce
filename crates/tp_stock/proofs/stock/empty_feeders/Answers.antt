-- The feeders one by one.
use Rattle.std.proofs.Common.{◌≡◌, ◌<◌, cond, length, get_or, take, filter, sym, ap, ◌∙◌, subst}
use Rattle.std.specs.List.{fold}
use Rattle.tp_schedule.specs.LocationSets.{nowhere, with}
use Rattle.tp_schedule.specs.declared.parts.Empties.{Empties}
use Rattle.tp_machine.specs.declared.parts.Feeder.{Feeder}
use Rattle.tp_stock.specs.Stock.{is_empty}
use Rattle.tp_stock.proofs.EmptyFacts.{fold-more, none-empty}
use Rattle.tp_stock.proofs.StockFacts.{empty-told, feeder-known}
use Rattle.tp_stock.proofs.stock.empty_feeders.Goals as goal
use Rattle.tp_stock.proofs.stock.empty_feeders.Goals.{then-eq, else-eq}

pub feeders-preserved : goal.feeders-preserved
feeders-preserved c =
    let m = c.args.machine.now in
    let refills = c.args.refills.now.0 in
    let plans = c.args.schedule.now.plans in
    let items = c.as_slice-feeder-items.result.now in
    let i = c.feeders.feeder-index in
    let f = c.feeder-item.result in
    let same : items ≡ m.feeders = c.as_slice-feeder-items.ensures in
    let below : i < length m.feeders = subst (λ xs. i < length xs) same c.feeders-test.true in
    let at : f ≡ get_or m.feeders i f = subst (λ xs. f ≡ get_or xs i f) same c.feeder-item.is in
    let known = feeder-known m f (i, below, sym at) in
    let told = empty-told m refills plans f c.count_taken-taken.result.0 c.free_stock.result c.eq.result known c.count_taken-taken.ensures c.free_stock.ensures c.eq.ensures in
    let before = fold (λ (set : Empties) (f : Feeder). with set f.loc) nowhere (filter (is_empty m refills plans) (take i items)) in
    let more = fold-more (λ (set : Empties) (f : Feeder). with set f.loc) (is_empty m refills plans) items i f nowhere c.feeders-test.true c.feeder-item.is in
    elim c.if-eq.branch [
      | then-eq w ↦
          w.empty-is ∙ w.with-empty.ensures.is ∙ ap (λ (set : Empties). with set f.loc) c.feeders.invariant ∙ sym (more ∙ ap (λ b. cond b (with before f.loc) before) (told ∙ w.if-eq.true))
      | else-eq w ↦ w.empty-is ∙ c.feeders.invariant ∙ sym (more ∙ ap (λ b. cond b (with before f.loc) before) (told ∙ w.if-eq.false))
    ]

pub returns-then-not-has_stock : goal.returns-then-not-has_stock
returns-then-not-has_stock c =
    c.none.ensures ∙ ap (fold (λ (set : Empties) (f : Feeder). with set f.loc) nowhere) (sym (none-empty c.args.machine.now c.args.refills.now.0 c.args.schedule.now.plans c.args.machine.now.feeders (sym c.has_stock.ensures ∙ c.if-not-has_stock.true)))
