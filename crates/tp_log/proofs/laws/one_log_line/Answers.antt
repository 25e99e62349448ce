use Rattle.tp_log.proofs.BoundLines.{one_log_line}
use Rattle.tp_log.proofs.laws.one_log_line.Goals as goal

pub returns : goal.returns
returns c = one_log_line
