-- The items are gone through one by one, with the records that are due behind them.
use Rattle.std.proofs.Common.{◌∙◌, refl, sym}
use Rattle.std.proofs.lemmas.List.{take_rest}
use Rattle.tp_log_check.proofs.PartingFacts.{all-here, gone-none, next-here, parts-end, parts-here, parts-other}
use Rattle.tp_log_check.proofs.first_difference.find_parting.Goals as goal

pub items-init : goal.items-init
items-init c = gone-none c.args.notes.now c.args.items.now

pub items-preserved : goal.items-preserved
items-preserved c =
    rw take_rest
    (next-here c.args.notes.now c.args.items.now c.items.rest.now c.items.due.now c.in-Some.left.now c.item-item.result c.items.invariant c.in-len1-up.len_at_least c.item-item.is c.in-Some.ensures)

pub returns-in-None-clause-parts : goal.returns-in-None-clause-parts
returns-in-None-clause-parts c = parts-here c.args.notes.now c.args.items.now c.items.rest.now c.items.due.now c.item-item.result c.items.invariant c.in-len1-up.len_at_least c.item-item.is c.in-None.ensures

pub returns-in-None-clause-same : goal.returns-in-None-clause-same
returns-in-None-clause-same c =
    let parts = parts-here c.args.notes.now c.args.items.now c.items.rest.now c.items.due.now c.item-item.result c.items.invariant c.in-len1-up.len_at_least c.item-item.is c.in-None.ensures in
    (λ e. absurd cc, λ e. absurd (parts-other c.args.notes.now c.args.items.now _ parts e))

pub returns-then-is_empty-clause-same : goal.returns-then-is_empty-clause-same
returns-then-is_empty-clause-same c =
    let all = all-here c.args.notes.now c.args.items.now c.items.rest.now c.items.due.now c.items.invariant c.in_default.len_below (sym c.is_empty.ensures ∙ c.if-is_empty.true) in
    (λ e. all, λ e. refl)

pub returns-else-is_empty-clause-parts : goal.returns-else-is_empty-clause-parts
returns-else-is_empty-clause-parts c =
    parts-end c.args.notes.now c.args.items.now c.items.rest.now c.items.due.now c.items.invariant c.in_default.len_below (sym c.is_empty.ensures ∙ c.if-is_empty.false)

pub returns-else-is_empty-clause-same : goal.returns-else-is_empty-clause-same
returns-else-is_empty-clause-same c =
    let parts = parts-end c.args.notes.now c.args.items.now c.items.rest.now c.items.due.now c.items.invariant c.in_default.len_below (sym c.is_empty.ensures ∙ c.if-is_empty.false) in
    (λ e. absurd cc, λ e. absurd (parts-other c.args.notes.now c.args.items.now _ parts e))
