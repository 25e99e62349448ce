-- The place that was looked up is that of the plan.
use Rattle.std.proofs.Common.{◌∙◌, ap, sym, arith, Some, None}
use Rattle.std.specs.HashMap.{get}
use Rattle.tp_bound_laws.specs.Chains.{plan_named}
use Rattle.tp_bound_check.specs.contracts.index.SheetKeyPartialEq.TheImpl.{eq-value}
use Rattle.tp_bound_check.proofs.KeyFacts.{name-by}
use Rattle.tp_bound_check.proofs.sheets.Sheets.plan_named.Goals as goal

pub index-requires : goal.index-requires
index-requires c =
    let plans = c.self.inside.plans in
    let at = name-by (get eq-value.it c.self.inside.by_name) plans.items c.args.name.now c.sheet_key.result (Some c.in-Some.at.now) c.self.invariant.1 c.sheet_key.ensures c.in-Some.ensures.value in
    let lt = at.0 in let ok = plans.ok.0 in omega arith

pub returns-in-Some : goal.returns-in-Some
returns-in-Some c =
    let plans = c.self.inside.plans.items in
    let at = name-by (get eq-value.it c.self.inside.by_name) plans c.args.name.now c.sheet_key.result (Some c.in-Some.at.now) c.self.invariant.1 c.sheet_key.ensures c.in-Some.ensures.value in
    ap (λ p. Some p) c.index.ensures ∙ sym (at.1 c.index.result.now) ∙ ap (plan_named c.args.name.now) c.self.view_is

pub returns-in-None : goal.returns-in-None
returns-in-None c =
    let plans = c.self.inside.plans.items in
    let at = name-by (get eq-value.it c.self.inside.by_name) plans c.args.name.now c.sheet_key.result None c.self.invariant.1 c.sheet_key.ensures c.in-None.ensures.value in
    sym at ∙ ap (plan_named c.args.name.now) c.self.view_is
