use Rattle.tp_log.proofs.LogFacts.{one_log}
use Rattle.tp_log.proofs.laws.one_log.Goals as goal

pub returns : goal.returns
returns c = one_log
