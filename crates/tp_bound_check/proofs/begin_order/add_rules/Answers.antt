use Rattle.std.proofs.Common.{arith}
use Rattle.std.proofs.lemmas.Grind.{common_steps}
use Rattle.tp_bound_check.proofs.begin_order.add_rules.Goals as goal

pub rules-preserved : goal.rules-preserved
rules-preserved c = grind (arith, common_steps)

pub returns : goal.returns
returns c = grind (arith, common_steps)
