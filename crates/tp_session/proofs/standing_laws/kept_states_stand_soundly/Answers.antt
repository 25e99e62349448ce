use Rattle.tp_session.proofs.StandsSound.{stands-sound}
use Rattle.tp_session.proofs.ToldBack.{told-back}
use Rattle.tp_session.proofs.standing_laws.kept_states_stand_soundly.Goals as goal

pub returns-clause-sound : goal.returns-clause-sound
returns-clause-sound c = stands-sound

pub returns-clause-told : goal.returns-clause-told
returns-clause-told c = told-back
