use Rattle.tp_program.proofs.ChecksInOrderFacts.{no_run_is_rejected}
use Rattle.tp_program.proofs.order.runs_are_accepted.Goals as goal

pub returns : goal.returns
returns c = no_run_is_rejected c.bound_runs_are_accepted.ensures c.bound_runs_have_short_lines.ensures
