use Rattle.std.proofs.Common.{arith}
use Rattle.std.proofs.lemmas.Grind.{common_steps}
use Rattle.tp_bound_check.proofs.orders.CheckScene.stop_stand.Goals as goal

pub returns-then-from-clause-stand : goal.returns-then-from-clause-stand
returns-then-from-clause-stand c = grind (arith, common_steps)
