use Rattle.std.proofs.Common.{arith}
use Rattle.std.proofs.lemmas.Grind.{common_steps}
use Rattle.tp_machine_text.proofs.action_values.actions_of.Goals as goal

pub actions-preserved : goal.actions-preserved
actions-preserved c = record {
  counted = grind (arith, common_steps);
  named = grind (arith, common_steps);
  lasting = grind (arith, common_steps);
  held = grind (arith, common_steps);
  whole = grind (arith, common_steps);
}
