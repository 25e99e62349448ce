use Rattle.std.proofs.Common.{arith}
use Rattle.std.proofs.lemmas.Grind.{common_steps}
use Rattle.tp_machine_text.proofs.Fresh.{fresh}
use Rattle.tp_machine_text.proofs.table_values.names_of.Goals as goal

pub values-preserved : goal.values-preserved
values-preserved c = record {
  counted = grind (arith, common_steps);
  named = grind (arith, common_steps);
  new = grind (arith, common_steps, fresh);
  differ = grind (arith, common_steps);
  whole = grind (arith, common_steps);
}
