use Rattle.std.proofs.Common.{length}
use Rattle.tp_machine_text.proofs.table_parts.+resources_table.Given as goal

abbrev pub decreases-resources_table : goal.decreases-resources_table
decreases-resources_table l = length l.resources.now
