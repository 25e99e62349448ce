use Rattle.tp_verify.proofs.InOrderFacts.{no-lawful-log-is-refused}
use Rattle.tp_verify.proofs.order.lawful_logs_are_verified.Goals as goal

pub returns : goal.returns
returns c = no-lawful-log-is-refused
