use Rattle.std.proofs.Common.{arith}
use Rattle.std.proofs.lemmas.Grind.{common_steps}
use Rattle.tp_log_planner.proofs.alone.find_out_of_bounds.Goals as goal

pub overflow_add-from : goal.overflow_add-from
overflow_add-from c = grind (arith, common_steps)

pub returns-in-Some-clause-breaks : goal.returns-in-Some-clause-breaks
returns-in-Some-clause-breaks c = grind (arith, common_steps)

pub returns-in-Some-clause-why : goal.returns-in-Some-clause-why
returns-in-Some-clause-why c = grind (arith, common_steps)

pub overflow_add-from-in-Some-find_past_horizon : goal.overflow_add-from-in-Some-find_past_horizon
overflow_add-from-in-Some-find_past_horizon c = grind (arith, common_steps)

pub returns-in-Some-find_past_horizon-clause-breaks : goal.returns-in-Some-find_past_horizon-clause-breaks
returns-in-Some-find_past_horizon-clause-breaks c = grind (arith, common_steps)

pub returns-in-Some-find_past_horizon-clause-why : goal.returns-in-Some-find_past_horizon-clause-why
returns-in-Some-find_past_horizon-clause-why c = grind (arith, common_steps)
