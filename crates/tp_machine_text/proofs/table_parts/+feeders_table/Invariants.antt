use Rattle.std.proofs.Common.{length}
use Rattle.tp_machine_text.proofs.table_parts.+feeders_table.Given as goal

abbrev pub decreases-feeders_table : goal.decreases-feeders_table
decreases-feeders_table l = length l.feeders.now
