use Rattle.tp_verify.proofs.InOrderFacts.{no-check-is-refused}
use Rattle.tp_verify.proofs.order.logs_in_order_are_verified.Goals as goal

pub returns : goal.returns
returns c = no-check-is-refused
