use Rattle.std.proofs.Common.{arith}
use Rattle.std.proofs.lemmas.Grind.{common_steps}
use Rattle.tp_machine_text.proofs.lookup.are_different.Goals as goal

pub values-preserved : goal.values-preserved
values-preserved c = grind (arith, common_steps)
