use Rattle.std.specs.Prelude.{unwrap_or}
use Rattle.tp_session.proofs.Lawfully.{sessions_lawful, sessions_stop, sessions_tell, sessions_tell_lines}
use Rattle.tp_session.proofs.laws.sessions_are_lawful.Goals as goal

pub returns-clause-whole : goal.returns-clause-whole
returns-clause-whole c machine budget bounds = sessions_lawful machine (unwrap_or budget machine.budget) bounds

pub returns-clause-stopped : goal.returns-clause-stopped
returns-clause-stopped c machine budget bounds = sessions_stop machine (unwrap_or budget machine.budget) bounds

pub returns-clause-told : goal.returns-clause-told
returns-clause-told c machine budget bounds = sessions_tell machine (unwrap_or budget machine.budget) bounds

pub returns-clause-lines : goal.returns-clause-lines
returns-clause-lines c = sessions_tell_lines
