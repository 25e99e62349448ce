use Rattle.std.proofs.Common.{◌∙◌, ap, map}
use Rattle.std.specs.HashMap.{get}
use Rattle.tp_bound_check.specs.Keys.{copy_key, plan_key}
use Rattle.tp_bound_check.specs.contracts.index.SheetKeyPartialEq.TheImpl.{eq-value as eq-sheet}
use Rattle.tp_bound_check.specs.contracts.index.StartKeyPartialEq.TheImpl.{eq-value as eq-start}
use Rattle.tp_bound_check.proofs.KeyFacts.{by-copy, by-name}
use Rattle.tp_bound_check.proofs.sheets.Sheets.new.Goals as goal

pub invariant_of-result : goal.invariant_of-result
invariant_of-result c = (
  by-copy (get eq-start.it c.in_ok-by_copy.by_copy) c.as_slice-3.result.now c.args.plans.items (c.as_slice-3.ensures.value ∙ c.in_ok-copies.ensures ∙ ap (map (λ p. copy_key p.sheet)) c.as_slice.ensures.value) c.in_ok-by_copy.ensures,
  by-name (get eq-sheet.it c.in_ok-by_name.by_name) c.as_slice-4.result.now c.args.plans.items (c.as_slice-4.ensures.value ∙ c.in_ok-names.ensures ∙ ap (map plan_key) c.as_slice-2.ensures.value) c.in_ok-by_name.ensures,
)
