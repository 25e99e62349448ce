use Rattle.tp_program.proofs.InOrderFacts.{no_run_is_refused}
use Rattle.tp_program.proofs.order.runs_in_order_are_answered.Goals as goal

pub returns : goal.returns
returns c = no_run_is_refused
