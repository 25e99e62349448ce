use Rattle.std.proofs.Common.{length}
use Rattle.tp_machine_text.proofs.table_parts.+stocks_table.Given as goal

abbrev pub decreases-stocks_table : goal.decreases-stocks_table
decreases-stocks_table l = length l.feeders.now
