use Rattle.std.proofs.Common.{arith}
use Rattle.std.proofs.lemmas.Grind.{common_steps}
use Rattle.tp_bound_check.proofs.orders.CheckScene.span_gap.Goals as goal

pub returns-then-span-resource : goal.returns-then-span-resource
returns-then-span-resource c = grind (arith, common_steps)
