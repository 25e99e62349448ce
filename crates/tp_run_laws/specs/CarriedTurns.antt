-- A turn of one planner as the turn of another, and of a planner that answers rightly as one of right answers.
use Rattle.std.specs.Prelude.{◌≡◌, ℕ, Bool, true, false, ◌||◌, List, [], ◌++◌, All, IsTrue}
use Rattle.tp_bounds.specs.Trees.{IsPrintable}
use Rattle.tp_bounds.specs.declared.tree.BoundTree.{BoundTree}
use Rattle.tp_machine.specs.declared.machine.Machine.{Machine}
use Rattle.tp_schedule.specs.PlannerAnswers.{Deed, PlannerRules}
use Rattle.tp_schedule.specs.PlannerAnswers.Deed.{replied, settled}
use Rattle.tp_schedule.specs.declared.parts.Ask.{Ask}
use Rattle.tp_schedule.specs.declared.parts.Origin.{Origin}
use Rattle.tp_schedule.specs.declared.parts.Origin.TheVariants.{Feeder as FromFeeder, Front as FromFront}
use Rattle.tp_schedule.specs.declared.parts.Plan.{Plan}
use Rattle.tp_schedule.specs.declared.records.Record.{Record}
use Rattle.tp_script.specs.declared.event.Event.{Event}
use Rattle.tp_event_rules.specs.Logs.{TakesTrees}
use Rattle.tp_event_rules.specs.Moments.{is_to_tray}
use Rattle.tp_event_rules.specs.Planners.{PlannerSteps, right_steps}
use Rattle.tp_event_rules.specs.States.{SessionState}
use Rattle.tp_event_rules.specs.Turns.{Turn}
use Rattle.tp_event_turn.specs.Events.{LiveTurn}
use Rattle.tp_run_laws.specs.Runs.{TurnOf, spent_by, tree_claims}

-- an ask of a turn is for a tray, or of a copy in flight
abbrev pub is_from_front : Origin → Bool
is_from_front FromFeeder = false
is_from_front (FromFront state end count) = true

abbrev pub IsOfTurn : Deed → Type 0
IsOfTurn (replied ask reply) = IsTrue (is_to_tray ask.goal || is_from_front ask.origin)
IsOfTurn (settled now) = Unit {0}

-- each deed of a turn by a fit planner keeps it fit, and is a deed of the other: that one goes with the first before the deed
-- where it goes with it after it
abbrev pub DeedsCarry : {P Q : Type 0} → PlannerSteps P → PlannerSteps Q → (P → Type 0) → (P → Q → Type 0) → Type 0
DeedsCarry {P} {Q} one other Fit Together = (p p' : P) (plans plans' : List Plan) (deed : Deed) → IsOfTurn deed → Fit p → one.does p plans deed plans' p'
    → Fit p' × ((q' : Q) → Together p' q' → (q : Q) × other.does q plans deed plans' q' × Together p q)

module _ {P : Type 0} (rules : PlannerRules P) (machine : Machine) where
  -- the planner stores so many lists of choices, and no deed changes their number
  pub record KeepsNodes (nodes : P → ℕ) : Type 0 where
    pub counted : (p : P) (plans : List Plan) (ask : Ask) (bound : ℕ) → rules.spent p machine plans ask bound → spent_by (nodes p) machine plans ask bound
    pub same : (p p' : P) (plans plans' : List Plan) (deed : Deed) → rules.steps p machine plans deed plans' p' → nodes p' ≡ nodes p

  -- the planner shows bounds or doesn't, and its list of trees grows at the end by those that its deed takes
  pub record ShowsTrees (bounds : P → Bool) (trees : P → List BoundTree) : Type 0 where
    pub shown : (p p' : P) (plans plans' : List Plan) (deed : Deed) → rules.steps p machine plans deed plans' p' → (later : List BoundTree)
        → (now : List BoundTree) × TakesTrees tree_claims machine (bounds p) now plans deed plans' later × (trees p' ++ later ≡ trees p ++ now)
    pub same : (p p' : P) (plans plans' : List Plan) (deed : Deed) → rules.steps p machine plans deed plans' p' → bounds p' ≡ bounds p

  -- its turns are turns of right answers with that number, and with the trees of its list, where that was empty
  abbrev pub RightTurns : Type 0
  RightTurns = (nodes : P → ℕ) (bounds : P → Bool) (trees : P → List BoundTree) → KeepsNodes nodes → ShowsTrees bounds trees
      → (event : Event) (s s' : SessionState) (records : List Record) (p p' : P) → trees p ≡ []
      → Turn (right_steps rules machine) machine event s p records s' p' → TurnOf machine (nodes p) (bounds p) event s records (trees p') s' × (nodes p' ≡ nodes p)

  -- each tree of a turn on a live state has lines
  abbrev pub TreesHaveLines : Type 0
  TreesHaveLines = (bounds : P → Bool) (trees : P → List BoundTree) → ShowsTrees bounds trees
      → (event : Event) (s s' : SessionState) (records : List Record) (p p' : P) → trees p ≡ []
      → LiveTurn (right_steps rules machine) machine event s p records s' p' → All IsPrintable (trees p')
