use Rattle.tp_log_laws.proofs.OnTrust.{bound-runs-accepted}
use Rattle.tp_log_laws.proofs.laws.bound_runs_are_accepted.Goals as goal

pub returns : goal.returns
returns c = bound-runs-accepted
