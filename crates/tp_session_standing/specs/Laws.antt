-- What a sound standing tells.
use Rattle.std.specs.Prelude.{◌≡◌}
use Rattle.tp_machine.specs.declared.machine.Machine.{Machine}
use Rattle.tp_jobs.specs.declared.standing.Standing.{Standing}
use Rattle.tp_event_rules.specs.Ready.{CanTakeEvents, KeepsStock}
use Rattle.tp_session_standing.specs.Sound.{IsSound, last_number}
use Rattle.tp_session_standing.specs.StandingStates.{standing_of, standing_state}

-- any event can be taken in the state that it tells, and that state stands where it says
pub record CanGoOn (machine : Machine) (t : Standing) : Type 0 where
  pub can : CanTakeEvents machine last_number (standing_state machine t)
  pub stocked : KeepsStock machine 2 (standing_state machine t)
  pub stands : standing_of machine (standing_state machine t) ≡ t

abbrev pub SoundStandingsGoOn : Type 0
SoundStandingsGoOn = (machine : Machine) (t : Standing) → IsSound machine t → CanGoOn machine t
