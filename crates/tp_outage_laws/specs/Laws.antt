-- What outages keep, over any planner, by what is known of its steps.
use Rattle.std.specs.Prelude.{ℕ, ◌+◌, Bool, List}
use Rattle.tp_machine.specs.declared.machine.Machine.{Machine}
use Rattle.tp_schedule.specs.declared.records.Record.{Record}
use Rattle.tp_event_rules.specs.Planners.{PlannerSteps, GoesOut}
use Rattle.tp_event_rules.specs.Ready.{CanTakeEvents, KeepsLive}
use Rattle.tp_event_rules.specs.States.{SessionState}

module _ {P : Type 0} (planner_steps : PlannerSteps P) (machine : Machine) where
  -- what is kept before a module goes out is kept after it
  abbrev pub OutagesKeep : (SessionState → Type 0) → Type 0
  OutagesKeep Keeps = (s : SessionState) (m : ℕ) (jam : Bool) (planner : P) (records : List Record) (s' : SessionState) (planner' : P)
      → GoesOut planner_steps machine s m jam planner records s' planner' → Keeps s → Keeps s'

  -- where a live state is kept, any event can be taken after a module went out. At most one copy more of each sheet is there
  abbrev pub OutagesKeepLive : Type 0
  OutagesKeepLive = (copies : ℕ) (s : SessionState) (m : ℕ) (jam : Bool) (planner : P) (records : List Record) (s' : SessionState) (planner' : P)
      → GoesOut planner_steps machine s m jam planner records s' planner' → KeepsLive machine copies s → CanTakeEvents machine (copies + 1) s'
