use Rattle.std.proofs.Common.{arith}
use Rattle.std.proofs.lemmas.Grind.{common_steps}
use Rattle.tp_machine_text.proofs.Built.{built}
use Rattle.tp_machine_text.proofs.machine_table.actions_value.Goals as goal

pub actions-preserved : goal.actions-preserved
actions-preserved c = record {
  known = grind (arith, common_steps);
  whole = grind (arith, common_steps, built);
}
