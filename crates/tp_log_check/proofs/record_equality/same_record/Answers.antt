use Rattle.std.proofs.Common.{arith}
use Rattle.std.proofs.lemmas.Grind.{common_steps}
use Rattle.tp_log_check.proofs.record_equality.same_record.Goals as goal

pub returns-in-Plan : goal.returns-in-Plan
returns-in-Plan c = grind (arith, common_steps)

pub returns-in-Move : goal.returns-in-Move
returns-in-Move c = grind (arith, common_steps)

pub returns-in-Never : goal.returns-in-Never
returns-in-Never c = grind (arith, common_steps)

pub returns-in-Budget : goal.returns-in-Budget
returns-in-Budget c = grind (arith, common_steps)

pub returns-in-FullUp : goal.returns-in-FullUp
returns-in-FullUp c = grind (arith, common_steps)

pub returns-in-Release : goal.returns-in-Release
returns-in-Release c = grind (arith, common_steps)

pub returns-in-Done : goal.returns-in-Done
returns-in-Done c = grind (arith, common_steps)

pub returns-in-Lost : goal.returns-in-Lost
returns-in-Lost c = grind (arith, common_steps)

pub returns-in-Again : goal.returns-in-Again
returns-in-Again c = grind (arith, common_steps)

pub returns-in-Stuck : goal.returns-in-Stuck
returns-in-Stuck c = grind (arith, common_steps)

pub returns-in-Broken : goal.returns-in-Broken
returns-in-Broken c = grind (arith, common_steps)

pub returns-in-Drop : goal.returns-in-Drop
returns-in-Drop c = grind (arith, common_steps)
