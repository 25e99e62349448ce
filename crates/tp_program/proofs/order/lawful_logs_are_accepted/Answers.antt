use Rattle.tp_program.proofs.ChecksInOrderFacts.{no_lawful_log_is_refused}
use Rattle.tp_program.proofs.order.lawful_logs_are_accepted.Goals as goal

pub returns : goal.returns
returns c = no_lawful_log_is_refused
