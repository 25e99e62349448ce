use Rattle.std.proofs.Common.{arith}
use Rattle.std.proofs.lemmas.Grind.{common_steps}
use Rattle.tp_machine_text.proofs.Built.{built}
use Rattle.tp_machine_text.proofs.table_parts.locs_value.Goals as goal

pub locs-preserved : goal.locs-preserved
locs-preserved c = record {
  known = grind (arith, common_steps);
  whole = grind (arith, common_steps, built);
}
