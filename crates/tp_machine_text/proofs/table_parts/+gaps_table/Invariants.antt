use Rattle.std.proofs.Common.{length}
use Rattle.tp_machine_text.proofs.table_parts.+gaps_table.Given as goal

abbrev pub decreases-gaps_table : goal.decreases-gaps_table
decreases-gaps_table l = length l.resources.now
