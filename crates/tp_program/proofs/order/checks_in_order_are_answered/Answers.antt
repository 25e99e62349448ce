use Rattle.tp_program.proofs.ChecksInOrderFacts.{no_check_is_refused}
use Rattle.tp_program.proofs.order.checks_in_order_are_answered.Goals as goal

pub returns : goal.returns
returns c = no_check_is_refused
