use Rattle.tp_session.proofs.TurnKeeps.{sound-empty}
use Rattle.tp_session.proofs.standing_laws.empty_state_is_sound.Goals as goal

pub returns : goal.returns
returns c machine = record { can = c.empty_state_can_begin.ensures.can machine; stocked = c.empty_state_can_begin.ensures.stocked machine; sound = sound-empty machine }
