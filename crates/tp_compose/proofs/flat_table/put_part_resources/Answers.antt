use Rattle.std.proofs.Common.{arith}
use Rattle.std.proofs.lemmas.Grind.{common_steps}
use Rattle.tp_compose.proofs.Puts.{put_more}
use Rattle.tp_compose.proofs.flat_table.put_part_resources.Goals as goal

pub entries-preserved : goal.entries-preserved
entries-preserved c = grind (arith, common_steps, put_more)
