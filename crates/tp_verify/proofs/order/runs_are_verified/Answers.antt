use Rattle.tp_verify.proofs.InOrderFacts.{no-run-is-rejected}
use Rattle.tp_verify.proofs.order.runs_are_verified.Goals as goal

pub returns : goal.returns
returns c = no-run-is-rejected c.bound_runs_are_accepted.ensures c.bound_runs_have_short_lines.ensures
