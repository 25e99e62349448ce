-- The place that was looked up is that of the plan.
use Rattle.std.proofs.Common.{◌∙◌, ap, sym, arith, Some, None}
use Rattle.std.specs.HashMap.{get}
use Rattle.tp_schedule.specs.Plans.{plan_of}
use Rattle.tp_bound_check.specs.contracts.index.StartKeyPartialEq.TheImpl.{eq-value}
use Rattle.tp_bound_check.proofs.KeyFacts.{copy-by}
use Rattle.tp_bound_check.proofs.sheets.Sheets.plan_of.Goals as goal

pub index-requires : goal.index-requires
index-requires c =
    let plans = c.self.inside.plans in
    let at = copy-by (get eq-value.it c.self.inside.by_copy) plans.items c.args.copy c.copy_key.result (Some c.in-Some.at.now) c.self.invariant.0 c.copy_key.ensures c.in-Some.ensures.value in
    let lt = at.0 in let ok = plans.ok.0 in omega arith

pub returns-in-Some : goal.returns-in-Some
returns-in-Some c =
    let plans = c.self.inside.plans.items in
    let at = copy-by (get eq-value.it c.self.inside.by_copy) plans c.args.copy c.copy_key.result (Some c.in-Some.at.now) c.self.invariant.0 c.copy_key.ensures c.in-Some.ensures.value in
    ap (λ p. Some p) c.index.ensures ∙ sym (at.1 c.index.result.now) ∙ ap (plan_of c.args.copy) c.self.view_is

pub returns-in-None : goal.returns-in-None
returns-in-None c =
    let plans = c.self.inside.plans.items in
    let at = copy-by (get eq-value.it c.self.inside.by_copy) plans c.args.copy c.copy_key.result None c.self.invariant.0 c.copy_key.ensures c.in-None.ensures.value in
    sym at ∙ ap (plan_of c.args.copy) c.self.view_is
