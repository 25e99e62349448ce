-- The headline, stated of every lawful log: whoever planned it, whatever its trees claim, and whatever a spent budget means.
use Rattle.std.specs.Prelude.{◌≡◌, ◌≤◌, ℕ, Bool, List, ◌∷◌, ◌++◌, length, Option, IsTrue}
use Rattle.tp_machine.specs.declared.machine.Machine.{Machine}
use Rattle.tp_script.specs.declared.event.Event.{Event}
use Rattle.tp_jobs.specs.JobRefusals.{is_tray_name}
use Rattle.tp_schedule.specs.Holders.{held}
use Rattle.tp_schedule.specs.Legality.{IsLegal}
use Rattle.tp_schedule.specs.declared.parts.Ask.{Ask}
use Rattle.tp_schedule.specs.declared.parts.Plan.{Plan}
use Rattle.tp_event_rules.specs.Logs.{Entry, TreeClaims, IsLawful}
use Rattle.tp_schedule.specs.declared.records.Record.{Record}
use Rattle.tp_schedule.specs.declared.records.Record.TheVariants.{Plan as TellsPlan, Never as TellsNever, Budget}
use Rattle.tp_schedule.specs.declared.records.SheetName.{SheetName}
use Rattle.tp_event_rules.specs.Deliveries.{ReceivesInOrder, records_of}
use Rattle.tp_event_rules.specs.Laws.{totals_after}
use Rattle.tp_event_rules.specs.Planners.{PlannerSteps}
use Rattle.tp_event_rules.specs.States.{SessionState}
use Rattle.tp_event_rules.specs.Turns.{Turn}
use Rattle.tp_outage_laws.specs.Through.{KeepsOrder}
use Rattle.tp_headline.specs.Given.{IsEarliestThere, IsNoneThere, IsSpentThere}

-- what trees claim
abbrev pub claims_of : {T : Type 0} → (Machine → List Plan → Ask → ℕ → T → Type 0) → (Machine → List Plan → Ask → T → Type 0) → TreeClaims T
claims_of none_before never = record { none_before = none_before; never = never }

-- a turn of any event keeps the order of a whole state, with a total for the sheets of a new job
abbrev pub TurnsKeepOrder : {P : Type 0} → PlannerSteps P → Machine → Type 0
TurnsKeepOrder {P} planner_steps machine = (event : Event) (totals : List ℕ) (s : SessionState) (planner : P) (records : List Record) (s' : SessionState) (planner' : P)
    → Turn planner_steps machine event s planner records s' planner' → KeepsOrder machine totals s → KeepsOrder machine (totals_after machine s event totals) s'

module _ {T : Type 0} (claims : TreeClaims T) (spent : Machine → List Plan → Ask → ℕ → Type 0) where
  -- the last schedule is legal, past included
  abbrev pub LawfulLogsAreLegal : Type 0
  LawfulLogsAreLegal = (machine : Machine) (shown : Bool) (events : List Event) (log : List (Entry T))
      (lawful : IsLawful claims shown spent machine events log) → IsLegal machine lawful.last.plans

  -- each tray of the machine receives its line in order: the deliveries rise, and only sheets of broken jobs are skipped
  abbrev pub LawfulLogsReceiveInOrder : Type 0
  LawfulLogsReceiveInOrder = (machine : Machine) (shown : Bool) (events : List Event) (log : List (Entry T))
      (lawful : IsLawful claims shown spent machine events log)
      → (tray : List ℕ) → IsTrue (is_tray_name machine tray) → ReceivesInOrder log tray

  -- no resource has two holders at any tick
  abbrev pub LawfulLogsHoldOnce : Type 0
  LawfulLogsHoldOnce = (machine : Machine) (shown : Bool) (events : List Event) (log : List (Entry T))
      (lawful : IsLawful claims shown spent machine events log)
      → (resource tick : ℕ) → length (held machine lawful.last.plans resource tick) ≤ 1

  -- a plan is reported where the schedule after it is earliest and least
  abbrev pub LawfulPlansAreEarliest : Type 0
  LawfulPlansAreEarliest = (machine : Machine) (shown : Bool) (events : List Event) (log : List (Entry T))
      (lawful : IsLawful claims shown spent machine events log) (before after : List Record)
      (copy : SheetName) (place : List ℕ) (points : List ℕ) (acts : List (List ℕ))
      → records_of log ≡ before ++ TellsPlan copy place points acts ∷ after
      → IsEarliestThere spent machine log lawful.last before (TellsPlan copy place points acts)

  -- a none is reported where there is no alternative by the horizon
  abbrev pub LawfulNonesAreNone : Type 0
  LawfulNonesAreNone = (machine : Machine) (shown : Bool) (events : List Event) (log : List (Entry T))
      (lawful : IsLawful claims shown spent machine events log) (before after : List Record)
      (copy : SheetName) (goal : Option (List ℕ))
      → records_of log ≡ before ++ TellsNever copy goal ∷ after
      → IsNoneThere spent machine log lawful.last before (TellsNever copy goal)

  -- a budget is reported where it is spent
  abbrev pub LawfulBudgetsAreSpent : Type 0
  LawfulBudgetsAreSpent = (machine : Machine) (shown : Bool) (events : List Event) (log : List (Entry T))
      (lawful : IsLawful claims shown spent machine events log) (before after : List Record)
      (copy : SheetName) (goal : Option (List ℕ)) (bound : ℕ)
      → records_of log ≡ before ++ Budget copy goal bound ∷ after
      → IsSpentThere spent machine log lawful.last before (Budget copy goal bound)
