-- The place that was looked up is that of the hold.
use Rattle.std.proofs.Common.{◌∙◌, ◌<◌, ap, sym, subst, arith, length, Some, None}
use Rattle.std.specs.HashMap.{get}
use Rattle.tp_schedule.specs.Spots.{Slot}
use Rattle.tp_bound_check.specs.Founds.{found_in}
use Rattle.tp_bound_check.specs.contracts.index.StartKeyPartialEq.TheImpl.{eq-value}
use Rattle.tp_bound_check.proofs.KeyFacts.{found-by}
use Rattle.tp_bound_check.proofs.orders.Order.found.Goals as goal

pub index-requires : goal.index-requires
index-requires c =
    let slots = c.self.inside.slots in
    let at = found-by (get eq-value.it c.self.inside.by_start) slots.items c.args.start c.start_key.result (Some c.in-Some.at.now) c.self.invariant.1 c.start_key.ensures c.in-Some.ensures.value in
    let lt = at.0 in let ok = slots.ok.0 in omega arith

pub returns-in-Some-clause-found : goal.returns-in-Some-clause-found
returns-in-Some-clause-found c =
    let slots = c.self.inside.slots.items in
    let at = found-by (get eq-value.it c.self.inside.by_start) slots c.args.start c.start_key.result (Some c.in-Some.at.now) c.self.invariant.1 c.start_key.ensures c.in-Some.ensures.value in
    ap (λ (s : Slot). Some (record { at = c.in-Some.at.now; slot = s })) c.index.ensures ∙ sym (at.1 c.index.result.now) ∙ ap (found_in c.args.start) c.self.view_is

pub returns-in-Some-clause-below : goal.returns-in-Some-clause-below
returns-in-Some-clause-below c =
    let slots = c.self.inside.slots.items in
    let at = found-by (get eq-value.it c.self.inside.by_start) slots c.args.start c.start_key.result (Some c.in-Some.at.now) c.self.invariant.1 c.start_key.ensures c.in-Some.ensures.value in
    let len = ap length c.self.view_is in subst (λ n. c.in-Some.at.now < n) len at.0

pub returns-in-None-clause-found : goal.returns-in-None-clause-found
returns-in-None-clause-found c =
    let slots = c.self.inside.slots.items in
    let at = found-by (get eq-value.it c.self.inside.by_start) slots c.args.start c.start_key.result None c.self.invariant.1 c.start_key.ensures c.in-None.ensures.value in
    sym at ∙ ap (found_in c.args.start) c.self.view_is
