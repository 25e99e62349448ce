use Rattle.tp_log_laws.proofs.Lawful.{logs_lawful, one_more}
use Rattle.tp_log_laws.proofs.laws.accepted_logs_are_lawful.Goals as goal

pub returns-clause-lawful : goal.returns-clause-lawful
returns-clause-lawful c = logs_lawful

pub returns-clause-more : goal.returns-clause-more
returns-clause-more c = one_more
