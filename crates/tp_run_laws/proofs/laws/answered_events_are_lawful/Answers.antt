use Rattle.tp_run_laws.proofs.Lawful.{events_lawful, turns_tell_lines}
use Rattle.tp_run_laws.proofs.laws.answered_events_are_lawful.Goals as goal

pub returns-clause-lawful : goal.returns-clause-lawful
returns-clause-lawful c = events_lawful

pub returns-clause-lines : goal.returns-clause-lines
returns-clause-lines c = turns_tell_lines
