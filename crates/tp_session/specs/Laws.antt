-- What is kept from the empty state on, and what it is good for.
use Rattle.std.specs.Prelude.{◌≡◌, ℕ, ◌≤◌, List, length}
use Rattle.tp_machine.specs.declared.machine.Machine.{Machine}
use Rattle.tp_schedule.specs.declared.records.Record.{Record}
use Rattle.tp_script.specs.declared.event.Event.{Event}
use Rattle.tp_event_rules.specs.Planners.{PlannerSteps}
use Rattle.tp_event_rules.specs.Ready.{KeepsLive}
use Rattle.tp_event_rules.specs.States.{SessionState}
use Rattle.tp_event_turn.specs.Events.{LiveTurn}
use Rattle.tp_session_standing.specs.Sound.{IsSound, last_number, most_jobs}
use Rattle.tp_session_standing.specs.StandingStates.{standing_of, standing_state}
use Rattle.tp_session.specs.Kept.{CanBeSaved, KeepsSound}

-- what a live state keeps besides is kept through the turn of any event
abbrev pub KeepsSoundInTurns : {P : Type 0} → PlannerSteps P → Machine → Type 0
KeepsSoundInTurns {P} planner_steps machine = (copies : ℕ) (event : Event) (s : SessionState) (planner : P) (records : List Record) (s' : SessionState) (planner' : P)
    → KeepsLive machine copies s → LiveTurn planner_steps machine event s planner records s' planner' → KeepsSound machine s → KeepsSound machine s'

-- where not too many events and jobs came, the state stands where it is sound to go on from
abbrev pub StandsSoundly : Type 0
StandsSoundly = (machine : Machine) (events : ℕ) (s : SessionState) → events ≤ last_number → length s.jobs ≤ most_jobs
    → CanBeSaved machine events s → IsSound machine (standing_of machine s)

-- and what is written of that denotes the state itself
abbrev pub StandsAsTold : Type 0
StandsAsTold = (machine : Machine) (events : ℕ) (s : SessionState) → CanBeSaved machine events s → standing_state machine (standing_of machine s) ≡ s
