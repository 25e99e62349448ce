use Rattle.std.proofs.Common.{arith}
use Rattle.std.proofs.lemmas.Grind.{common_steps}
use Rattle.tp_log_planner.proofs.alone.find_unkept.Goals as goal

pub returns-in-Some-Moved-clause-why : goal.returns-in-Some-Moved-clause-why
returns-in-Some-Moved-clause-why c = grind (arith, common_steps)
