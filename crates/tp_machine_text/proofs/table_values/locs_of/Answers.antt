use Rattle.std.proofs.Common.{arith}
use Rattle.std.proofs.lemmas.Grind.{common_steps}
use Rattle.tp_machine_text.proofs.table_values.locs_of.Goals as goal

pub values-preserved : goal.values-preserved
values-preserved c = record {
  counted = grind (arith, common_steps);
  whole = grind (arith, common_steps);
}
