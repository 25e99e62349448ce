use Rattle.std.proofs.Common.{arith}
use Rattle.std.proofs.lemmas.Grind.{common_steps}
use Rattle.tp_schedule_check.proofs.early.add_acts.Goals as goal

pub acts-preserved : goal.acts-preserved
acts-preserved c = grind (arith, common_steps)
