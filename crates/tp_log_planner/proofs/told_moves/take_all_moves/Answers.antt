use Rattle.std.proofs.Common.{arith}
use Rattle.std.proofs.lemmas.Grind.{common_steps}
use Rattle.tp_log_planner.proofs.told_moves.take_all_moves.Goals as goal

pub returns-in-Err-clause-refused : goal.returns-in-Err-clause-refused
returns-in-Err-clause-refused c = grind (arith, common_steps)

pub returns-in-Err-clause-why : goal.returns-in-Err-clause-why
returns-in-Err-clause-why c = grind (arith, common_steps)

pub returns-then-begins_with_move-clause-moved : goal.returns-then-begins_with_move-clause-moved
returns-then-begins_with_move-clause-moved c = grind (arith, common_steps)

pub returns-then-begins_with_move-clause-over : goal.returns-then-begins_with_move-clause-over
returns-then-begins_with_move-clause-over c = grind (arith, common_steps)

pub returns-then-begins_with_move-clause-refused : goal.returns-then-begins_with_move-clause-refused
returns-then-begins_with_move-clause-refused c = grind (arith, common_steps)

pub returns-then-begins_with_move-clause-why : goal.returns-then-begins_with_move-clause-why
returns-then-begins_with_move-clause-why c = grind (arith, common_steps)

pub returns-else-begins_with_move-clause-moved : goal.returns-else-begins_with_move-clause-moved
returns-else-begins_with_move-clause-moved c = grind (arith, common_steps)

pub returns-else-begins_with_move-clause-over : goal.returns-else-begins_with_move-clause-over
returns-else-begins_with_move-clause-over c = grind (arith, common_steps)

pub returns-else-begins_with_move-clause-refused : goal.returns-else-begins_with_move-clause-refused
returns-else-begins_with_move-clause-refused c = grind (arith, common_steps)
