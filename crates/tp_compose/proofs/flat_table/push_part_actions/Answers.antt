use Rattle.std.proofs.Common.{arith}
use Rattle.std.proofs.lemmas.Grind.{common_steps}
use Rattle.tp_compose.proofs.flat_table.push_part_actions.Goals as goal

pub actions-preserved : goal.actions-preserved
actions-preserved c = grind (arith, common_steps)
