use Rattle.std.proofs.lemmas.Grind.{common_steps}
use Rattle.std.proofs.Common.{arith}
use Rattle.tp_log.proofs.record_printer.put_record.Goals as goal

pub returns-in_ok-put_with_word-in-Plan : goal.returns-in_ok-put_with_word-in-Plan
returns-in_ok-put_with_word-in-Plan c = grind (arith, common_steps)

pub returns-in_ok-put_heading-in-Move : goal.returns-in_ok-put_heading-in-Move
returns-in_ok-put_heading-in-Move c = grind (arith, common_steps)

pub returns-in_ok-put_heading-in-Never : goal.returns-in_ok-put_heading-in-Never
returns-in_ok-put_heading-in-Never c = grind (arith, common_steps)

pub returns-in_ok-put_goal_word-in-Budget : goal.returns-in_ok-put_goal_word-in-Budget
returns-in_ok-put_goal_word-in-Budget c = grind (arith, common_steps)

pub returns-in-FullUp : goal.returns-in-FullUp
returns-in-FullUp c = grind (arith, common_steps)

pub returns-in-Release : goal.returns-in-Release
returns-in-Release c = grind (arith, common_steps)

pub returns-in_ok-put_with_word-in-Done : goal.returns-in_ok-put_with_word-in-Done
returns-in_ok-put_with_word-in-Done c = grind (arith, common_steps)

pub returns-in-Lost : goal.returns-in-Lost
returns-in-Lost c = grind (arith, common_steps)

pub returns-in_ok-put_heading-in-Recall : goal.returns-in_ok-put_heading-in-Recall
returns-in_ok-put_heading-in-Recall c = grind (arith, common_steps)

pub returns-in-Withdraw : goal.returns-in-Withdraw
returns-in-Withdraw c = grind (arith, common_steps)

pub returns-in-Cut : goal.returns-in-Cut
returns-in-Cut c = grind (arith, common_steps)

pub returns-in-Purge : goal.returns-in-Purge
returns-in-Purge c = grind (arith, common_steps)

pub returns-in-Again : goal.returns-in-Again
returns-in-Again c = grind (arith, common_steps)

pub returns-in-Stuck : goal.returns-in-Stuck
returns-in-Stuck c = grind (arith, common_steps)

pub returns-in_ok-extend_from_slice-in-Broken : goal.returns-in_ok-extend_from_slice-in-Broken
returns-in_ok-extend_from_slice-in-Broken c = grind (arith, common_steps)

pub returns-in-Drop : goal.returns-in-Drop
returns-in-Drop c = grind (arith, common_steps)

pub returns-in_ok-extend_from_slice-in-Refused : goal.returns-in_ok-extend_from_slice-in-Refused
returns-in_ok-extend_from_slice-in-Refused c = grind (arith, common_steps)
