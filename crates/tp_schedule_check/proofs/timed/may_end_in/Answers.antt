use Rattle.std.proofs.Common.{arith}
use Rattle.std.proofs.lemmas.Grind.{common_steps}
use Rattle.tp_schedule_check.proofs.timed.may_end_in.Goals as goal

pub returns-in-Whole-Tray : goal.returns-in-Whole-Tray
returns-in-Whole-Tray c = grind (arith, common_steps)
