use Rattle.std.proofs.Common.{◌∙◌, ap, map, arith}
use Rattle.std.specs.HashMap.{get}
use Rattle.tp_bound_check.specs.Keys.{start_key}
use Rattle.tp_bound_check.specs.contracts.index.StartKeyPartialEq.TheImpl.{eq-value}
use Rattle.tp_bound_check.proofs.KeyFacts.{by-start}
use Rattle.tp_bound_check.proofs.orders.Order.new.Goals as goal

pub invariant_of-result : goal.invariant_of-result
invariant_of-result c = (
  (let few = c.if-len.true in let len = c.len.ensures in omega arith),
  by-start (get eq-value.it c.in_ok-by_start.by_start) c.as_slice-2.result.now c.args.slots.items (c.as_slice-2.ensures.value ∙ c.in_ok-keys.ensures ∙ ap (map (λ s. start_key s.from)) c.as_slice.ensures.value) c.in_ok-by_start.ensures,
)
