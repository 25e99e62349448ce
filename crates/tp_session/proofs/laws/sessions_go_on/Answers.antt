use Rattle.std.specs.Prelude.{true, unwrap_or}
use Rattle.tp_run_laws.proofs.Lawful.{whole-empty}
use Rattle.tp_session.proofs.GoesOn.{events_from, told-whole}
use Rattle.tp_session.proofs.Lawfully.{scripts_from, stops_from}
use Rattle.tp_session.proofs.laws.sessions_go_on.Goals as goal

pub returns-clause-empty : goal.returns-clause-empty
returns-clause-empty c machine = whole-empty machine 0 true

pub returns-clause-sound : goal.returns-clause-sound
returns-clause-sound c = told-whole

pub returns-clause-whole : goal.returns-clause-whole
returns-clause-whole c machine budget bounds = scripts_from machine (unwrap_or budget machine.budget) bounds

pub returns-clause-stopped : goal.returns-clause-stopped
returns-clause-stopped c machine budget bounds = stops_from machine (unwrap_or budget machine.budget) bounds

pub returns-clause-told : goal.returns-clause-told
returns-clause-told c machine budget bounds = events_from machine (unwrap_or budget machine.budget) bounds
