-- How a turn goes over a planner that is given its answers by the records and trees of an entry.
use Rattle.std.specs.Prelude.{◌≡◌, ℕ, false, List, [], ◌∷◌}
use Rattle.tp_bounds.specs.declared.tree.BoundTree.{BoundTree}
use Rattle.tp_machine.specs.declared.machine.Machine.{Machine}
use Rattle.tp_schedule.specs.PlannerAnswers.{PlannerRules}
use Rattle.tp_schedule.specs.declared.records.Record.{Record}
use Rattle.tp_script.specs.declared.event.Event.{Event}
use Rattle.tp_log_planner.specs.Stops.{StopsAt}
use Rattle.tp_log_planner.specs.ToldAnswers.{TakesOn, ToldValue, ahead, behind_asides}
use Rattle.tp_event_rules.specs.StateInvariants.{live_part}
use Rattle.tp_event_rules.specs.Logs.{Entry, spent_on_trust}
use Rattle.tp_event_rules.specs.Planners.{PlannerSteps, right_steps}
use Rattle.tp_event_rules.specs.Ready.{CanTakeEvents}
use Rattle.tp_event_rules.specs.States.{SessionState}
use Rattle.tp_event_turn.specs.Events.{LiveTurn}
use Rattle.tp_event_turn.specs.Stops.{LiveStop}
use Rattle.tp_run_laws.specs.Runs.{items_with}
use Rattle.tp_run_laws.specs.Wholes.{IsWhole}
use Rattle.tp_log_laws.specs.AcceptedEntries.{AcceptedTurn}

-- the planner that is given its answers
abbrev pub told_rules : PlannerRules ToldValue
told_rules = record {
  spent = λ p. spent_on_trust;
  steps = λ p machine plans deed plans' p'. TakesOn p machine plans deed plans' p';
  stop_steps = λ p machine plans due p'. StopsAt p machine plans due p';
}

abbrev pub told_steps : Machine → PlannerSteps ToldValue
told_steps machine = right_steps told_rules machine

-- all that the items say is taken: only asides may be left of them
abbrev pub IsThrough : ToldValue → Type 0
IsThrough p = behind_asides (ahead p) ≡ []

module _ (machine : Machine) (event : Event) (s : SessionState) (p : ToldValue) where
  -- each of its turns on the live state tells these records, leads to that state, and takes all that is reported
  abbrev pub TurnsTell : List Record → SessionState → Type 0
  TurnsTell records s' = (notes : List Record) (last : SessionState) (p' : ToldValue) → LiveTurn (told_steps machine) machine event s p notes last p' → (notes ≡ records) × (last ≡ s') × IsThrough p'

  -- it stops in none
  abbrev pub NeverStops : Type 0
  NeverStops = (notes : List Record) (p' : ToldValue) → LiveStop (told_steps machine) machine event s p notes p' → ⊥

-- where the event of an entry has a turn of right answers on a whole state, its budgets on trust, with its records and trees, a planner
-- that is given these, each tree in its place, tells the same on the live part, and never stops
abbrev pub LawfulTurnsAccepted : Machine → Type 0
LawfulTurnsAccepted machine = (copies : ℕ) (e : Entry BoundTree) (whole s whole' : SessionState) (p : ToldValue)
    → CanTakeEvents machine copies s → IsWhole machine whole s → AcceptedTurn machine e.event whole e.trees e.records whole' [] → ahead p ≡ items_with false e.records e.trees
    → TurnsTell machine e.event s p e.records (live_part machine whole') × NeverStops machine e.event s p
