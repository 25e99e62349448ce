use Rattle.std.proofs.Common.{arith}
use Rattle.std.proofs.lemmas.Grind.{common_steps}
use Rattle.tp_machine_text.proofs.action_values.holds_in.Goals as goal

pub holds-preserved : goal.holds-preserved
holds-preserved c = record {
  counted = grind (arith, common_steps);
  kept = grind (arith, common_steps);
  whole = grind (arith, common_steps);
}
