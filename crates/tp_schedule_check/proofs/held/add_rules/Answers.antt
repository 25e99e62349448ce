use Rattle.std.proofs.Common.{arith}
use Rattle.std.proofs.lemmas.Grind.{common_steps}
use Rattle.tp_schedule_check.proofs.held.add_rules.Goals as goal

pub rules-preserved : goal.rules-preserved
rules-preserved c = grind (arith, common_steps)
