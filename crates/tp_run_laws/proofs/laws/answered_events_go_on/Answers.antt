use Rattle.tp_run_laws.proofs.Lawful.{events_go_on, first_runs_lawful, lines_go_on, runs_join}
use Rattle.tp_run_laws.proofs.laws.answered_events_go_on.Goals as goal

pub returns-clause-events : goal.returns-clause-events
returns-clause-events c = events_go_on

pub returns-clause-lines : goal.returns-clause-lines
returns-clause-lines c = lines_go_on

pub returns-clause-join : goal.returns-clause-join
returns-clause-join c = runs_join

pub returns-clause-lawful : goal.returns-clause-lawful
returns-clause-lawful c = first_runs_lawful
