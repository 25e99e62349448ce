use Rattle.tp_run_laws.proofs.ShortRunLines.{bound-runs-short}
use Rattle.tp_run_laws.proofs.laws.bound_runs_have_short_lines.Goals as goal

pub returns : goal.returns
returns c = bound-runs-short
