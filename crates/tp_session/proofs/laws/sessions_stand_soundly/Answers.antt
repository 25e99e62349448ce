use Rattle.std.specs.Prelude.{unwrap_or}
use Rattle.tp_session.proofs.Soundly.{scripts-end, sessions-stand}
use Rattle.tp_session.proofs.laws.sessions_stand_soundly.Goals as goal

pub returns-clause-events : goal.returns-clause-events
returns-clause-events c machine budget bounds =
    sessions-stand machine (unwrap_or budget machine.budget) bounds (c.empty_state_is_sound.ensures machine) (c.kept_states_stand_soundly.ensures.sound machine) (c.kept_states_stand_soundly.ensures.told machine)

pub returns-clause-script : goal.returns-clause-script
returns-clause-script c machine budget bounds =
    scripts-end machine (unwrap_or budget machine.budget) bounds (c.empty_state_is_sound.ensures machine) (c.kept_states_stand_soundly.ensures.sound machine) (c.kept_states_stand_soundly.ensures.told machine)
