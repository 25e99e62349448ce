use Rattle.std.proofs.Common.{arith}
use Rattle.std.proofs.lemmas.Grind.{common_steps}
use Rattle.tp_schedule_check.proofs.fault.find_in_plan.Goals as goal

pub find_unfixed-requires-clause-long : goal.find_unfixed-requires-clause-long
find_unfixed-requires-clause-long c = grind (arith, common_steps)

pub returns-in-Some-find_unfixed-clause-right : goal.returns-in-Some-find_unfixed-clause-right
returns-in-Some-find_unfixed-clause-right c = grind (arith, common_steps)

pub returns-in-None-find_unfixed-clause-right : goal.returns-in-None-find_unfixed-clause-right
returns-in-None-find_unfixed-clause-right c = grind (arith, common_steps)

pub returns-in-None-clause-right : goal.returns-in-None-clause-right
returns-in-None-clause-right c = grind (arith, common_steps)
