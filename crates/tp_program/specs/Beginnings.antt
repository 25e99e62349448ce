-- Where a run begins: with nothing, or where a standing says.
use Rattle.std.specs.Prelude.{ℕ, Bool, Option, Some, None, option_map}
use Rattle.std.specs.Borrow.{Bor}
use Rattle.tp_machine.specs.declared.machine.Machine.{Machine}
use Rattle.tp_jobs.specs.declared.standing.Standing as kept
use Rattle.tp_session.specs.Continuations.{stands_at}
use Rattle.tp_session.specs.Sessions.{Standing}
use Rattle.tp_session_standing.specs.Sound.{IsSound}
use Rattle.tp_session_standing.specs.StandingStates.{standing_state}
use Rattle.tp_event_rules.specs.States.{SessionState, empty_state}

abbrev pub first_state : Machine → Option kept.Standing → SessionState
first_state machine None = empty_state
first_state machine (Some t) = standing_state machine t

-- where a session on the machine stands that begins there
abbrev pub begun : Machine → Option ℕ → Bool → Option kept.Standing → Standing
begun machine budget bounds from = stands_at machine budget bounds (first_state machine from)

-- the standing that is lent, if there is one
abbrev pub standing_in : Option (Bor kept.Standing) → Option kept.Standing
standing_in from = option_map (λ t. t.now) from

-- a standing to begin with is sound
abbrev pub CanBegin : Machine → Option kept.Standing → Type 0
CanBegin machine None = Unit {0}
CanBegin machine (Some t) = IsSound machine t
