use Rattle.tp_event_rules.proofs.ComesBack.{plans-on, lines-on, sheets-on}
use Rattle.tp_event_rules.proofs.laws.coming_back_keeps_state.Goals as goal

pub returns-clause-plans : goal.returns-clause-plans
returns-clause-plans c = plans-on

pub returns-clause-lines : goal.returns-clause-lines
returns-clause-lines c = lines-on

pub returns-clause-sheets : goal.returns-clause-sheets
returns-clause-sheets c = sheets-on
