use Rattle.std.proofs.Common.{arith}
use Rattle.std.proofs.lemmas.Grind.{common_steps}
use Rattle.tp_machine_text.proofs.Built.{built}
use Rattle.tp_machine_text.proofs.table_parts.+resources_table.Goals as goal

pub returns-in_ok-put-in-len1-up : goal.returns-in_ok-put-in-len1-up
returns-in_ok-put-in-len1-up t c = grind (arith, common_steps, built)
