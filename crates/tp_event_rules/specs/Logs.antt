-- Lawful logs: runs of turns from the empty state, in which every answer is right.
use Rattle.std.specs.Prelude.{◌≡◌, ℕ, Bool, List, [], ◌∷◌, map}
use Rattle.std.specs.Bool.{MatchBool}
use Rattle.tp_machine.specs.declared.machine.Machine.{Machine}
use Rattle.tp_script.specs.declared.event.Event.{Event}
use Rattle.tp_schedule.specs.Plans.{plan_of, end_of_plan}
use Rattle.tp_schedule.specs.PlannerAnswers.{Deed}
use Rattle.tp_schedule.specs.PlannerAnswers.Deed.{replied, settled}
use Rattle.tp_schedule.specs.declared.parts.Ask.{Ask}
use Rattle.tp_schedule.specs.declared.parts.Plan.{Plan}
use Rattle.tp_schedule.specs.declared.parts.Reply.{Reply}
use Rattle.tp_schedule.specs.declared.parts.Reply.TheVariants.{Planned, Never, Spent}
use Rattle.tp_schedule.specs.declared.records.Record.{Record}
use Rattle.std.specs.Prelude.{Some}
use Rattle.tp_event_rules.specs.States.{SessionState, empty_state}
use Rattle.tp_event_rules.specs.Planners.{PlannerSteps, IsRight}
use Rattle.tp_event_rules.specs.Turns.{Turn}

-- an event with its records and, where they are shown, the trees of its plans and nones, in their order
pub record Entry (T : Type 0) : Type 0 where
  pub event : Event
  pub records : List Record
  pub trees : List T

-- what a tree proves of an ask on a schedule: that no alternative ends before the tick, or that there is none
pub record TreeClaims (T : Type 0) : Type 1 where
  pub none_before : Machine → List Plan → Ask → ℕ → T → Type 0
  pub never : Machine → List Plan → Ask → T → Type 0

-- nothing is claimed of a budget that is said to be spent
abbrev pub spent_on_trust : Machine → List Plan → Ask → ℕ → Type 0
spent_on_trust machine plans ask bound = Unit {0}

module _ {T : Type 0} (claims : TreeClaims T) (machine : Machine) where
  -- a plan and a none take the next tree, which proves them; a spent budget takes none
  abbrev pub TakesTree : List Plan → Ask → Reply → List Plan → List T → List T → Type 0
  TakesTree plans ask Planned plans' trees trees' =
      (tree : T) × ((p : Plan) × (plan_of ask.sheet plans' ≡ Some p)
      × claims.none_before machine plans ask (end_of_plan p) tree × (trees ≡ tree ∷ trees'))
  TakesTree plans ask Never plans' trees trees' = (tree : T) × claims.never machine plans ask tree × (trees ≡ tree ∷ trees')
  TakesTree plans ask (Spent bound) plans' trees trees' = trees' ≡ trees

  -- where trees are shown, an answer takes its own, and a settling takes none
  abbrev pub TakesTrees : Bool → List T → List Plan → Deed → List Plan → List T → Type 0
  TakesTrees shown trees plans (replied ask reply) plans' trees' =
      MatchBool shown (TakesTree plans ask reply plans' trees trees') (trees' ≡ trees)
  TakesTrees shown trees plans (settled now) plans' trees' = trees' ≡ trees

module _ {T : Type 0} (claims : TreeClaims T) (shown : Bool) (spent : Machine → List Plan → Ask → ℕ → Type 0) (machine : Machine) where
  -- whoever gives right answers, of whom nothing is known but the trees that are still to come
  abbrev pub right_answers : PlannerSteps (List T)
  right_answers = record {
    does = λ trees plans deed plans' trees'. IsRight spent machine plans deed plans' × TakesTrees claims machine shown trees plans deed plans' trees';
    stops = λ trees plans what trees'. ⊥;
  }

  -- one turn after another, each with its own trees
  abbrev pub Run : SessionState → List (Entry T) → SessionState → Type 0
  Run s [] s' = s' ≡ s
  Run s (entry ∷ log) s' =
      (mid : SessionState) × Turn right_answers machine entry.event s entry.trees entry.records mid [] × Run mid log s'

  -- the log answers the events, by a run from the empty state to the last one
  pub record IsLawful (events : List Event) (log : List (Entry T)) : Type 0 where
    pub answers : map (λ e. e.event) log ≡ events
    pub last : SessionState
    pub run : Run empty_state log last
