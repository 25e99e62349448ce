use Rattle.std.proofs.Common.{arith}
use Rattle.std.proofs.lemmas.Grind.{common_steps}
-- The first item is no aside.
use Rattle.tp_log_planner.proofs.ToldFacts.{first-no-aside}
use Rattle.tp_log_planner.proofs.told_answer.take_answer.Goals as goal

pub take_item-requires-clause-first : goal.take_item-requires-clause-first
take_item-requires-clause-first c = first-no-aside c.args.items.now c.item-item.result c.in-len1-up.len_at_least c.item-item.is c.requires.first

pub returns-in-empty-clause-why : goal.returns-in-empty-clause-why
returns-in-empty-clause-why c = grind (arith, common_steps)

pub returns-in-empty-clause-stays : goal.returns-in-empty-clause-stays
returns-in-empty-clause-stays c = grind (arith, common_steps)

pub returns-in-Ok-clause-told : goal.returns-in-Ok-clause-told
returns-in-Ok-clause-told c = grind (arith, common_steps)

pub returns-in-Err-clause-told : goal.returns-in-Err-clause-told
returns-in-Err-clause-told c = grind (arith, common_steps)

pub returns-in-Err-clause-refused : goal.returns-in-Err-clause-refused
returns-in-Err-clause-refused c = grind (arith, common_steps)

pub returns-in-Err-clause-why : goal.returns-in-Err-clause-why
returns-in-Err-clause-why c = grind (arith, common_steps)
