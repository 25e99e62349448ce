use Rattle.std.proofs.Common.{arith}
use Rattle.std.proofs.lemmas.Grind.{common_steps}
use Rattle.tp_bound_check.proofs.orders.CheckScene.split.Goals as goal

pub returns-then-is_stopped-clause-ok : goal.returns-then-is_stopped-clause-ok
returns-then-is_stopped-clause-ok c = grind (arith, common_steps)
