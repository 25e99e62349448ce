-- What makes an entry of a log acceptable, and what a log of such entries is.
use Rattle.std.specs.Prelude.{◌≡◌, ℕ, true, List, [], ◌∷◌, ◌++◌, map}
use Rattle.tp_bounds.specs.declared.tree.BoundTree.{BoundTree}
use Rattle.tp_machine.specs.declared.machine.Machine.{Machine}
use Rattle.tp_schedule.specs.PlannerAnswers.{Deed, PlannerRules}
use Rattle.tp_schedule.specs.declared.parts.Plan.{Plan}
use Rattle.tp_schedule.specs.declared.records.Record.{Record}
use Rattle.tp_script.specs.declared.event.Event.{Event}
use Rattle.tp_bound_laws.specs.Claims.{IsTreeFor}
use Rattle.tp_bound_laws.specs.declared.claim.Claim.TheVariants.{Earliest, Never}
use Rattle.tp_event_rules.specs.StateInvariants.{live_part}
use Rattle.tp_event_rules.specs.Logs.{Entry, IsLawful, TakesTrees, TreeClaims, right_answers, spent_on_trust}
use Rattle.tp_event_rules.specs.Planners.{right_steps}
use Rattle.tp_event_rules.specs.States.{SessionState, empty_state}
use Rattle.tp_event_rules.specs.Turns.{Turn}
use Rattle.tp_event_turn.specs.Events.{LiveTurn}
use Rattle.tp_run_laws.specs.Runs.{spent_by, tree_claims}
use Rattle.tp_run_laws.specs.Wholes.{IsWhole}

-- what a tree claims, on the live part of the schedule at the ask's moment: that no alternative ends before the tick, or that
-- there is none
abbrev pub bound_claims : TreeClaims BoundTree
bound_claims = record {
  none_before = λ machine plans ask end tree. IsTreeFor machine plans ask (Earliest end) tree;
  never = λ machine plans ask tree. IsTreeFor machine plans ask Never tree;
}

-- the turn of an event in which each answer is right, but that budgets are taken on trust: the first trees prove its plans and
-- nones, one after another, and the rest is left
abbrev pub AcceptedTurn : Machine → Event → SessionState → List BoundTree → List Record → SessionState → List BoundTree → Type 0
AcceptedTurn machine event s trees records s' rest = Turn (right_answers bound_claims true spent_on_trust machine) machine event s trees records s' rest

-- the event has such a turn on the whole state, which leaves one behind the next live state
abbrev pub HasAcceptedTurn : Machine → Event → SessionState → List BoundTree → List Record → SessionState → List BoundTree → Type 0
HasAcceptedTurn machine event whole trees records s' rest =
    (whole' : SessionState) × AcceptedTurn machine event whole trees records whole' rest × IsWhole machine whole' s'

module _ {P : Type 0} (rules : PlannerRules P) (machine : Machine) where
  -- each answer of the planner takes the next of the trees that are to come, which proves it
  abbrev pub TakesItsTrees : (P → List BoundTree) → Type 0
  TakesItsTrees trees = (p p' : P) (plans plans' : List Plan) (deed : Deed) → rules.steps p machine plans deed plans' p'
      → TakesTrees bound_claims machine true (trees p) plans deed plans' (trees p')

  -- its turns on a live state are accepted on every whole state behind it
  abbrev pub TurnsAccepted : Type 0
  TurnsAccepted = (trees : P → List BoundTree) → TakesItsTrees trees → (event : Event) (whole s s' : SessionState) (records : List Record) (p p' : P)
      → IsWhole machine whole s → LiveTurn (right_steps rules machine) machine event s p records s' p'
      → HasAcceptedTurn machine event whole (trees p) records s' (trees p')

module _ (machine : Machine) where
  -- an entry is accepted in a live state: on every whole state behind it the event has such a turn, with these records, which takes all
  -- its trees
  abbrev pub IsAccepted : SessionState → Entry BoundTree → SessionState → Type 0
  IsAccepted s e s' = (whole : SessionState) → IsWhole machine whole s → HasAcceptedTurn machine e.event whole e.trees e.records s' []

  -- one entry after another is
  abbrev pub AreAccepted : SessionState → List (Entry BoundTree) → SessionState → Type 0
  AreAccepted s [] s' = s' ≡ s
  AreAccepted s (e ∷ log) s' = (mid : SessionState) × IsAccepted s e mid × AreAccepted mid log s'

  -- and back: such a turn on a whole state is one on the live part, which leaves the live part of what it leaves
  abbrev pub AcceptedTurnsComeBack : Type 0
  AcceptedTurnsComeBack = (event : Event) (whole s whole' : SessionState) (trees : List BoundTree) (records : List Record) (rest : List BoundTree)
      → IsWhole machine whole s → AcceptedTurn machine event whole trees records whole' rest
      → LiveTurn (right_answers bound_claims true spent_on_trust machine) machine event s trees records (live_part machine whole') rest

  -- a lawful run with bounds is a log that is lawful with bounds, also where the causes of its budgets are taken on trust
  abbrev pub BoundRunsAccepted : Type 0
  BoundRunsAccepted = (nodes : ℕ) (events : List Event) (log : List (Entry BoundTree)) → IsLawful tree_claims true (spent_by nodes) machine events log
      → IsLawful bound_claims true spent_on_trust machine events log

  -- from the empty state they are a lawful log with bounds, but for the causes of its budgets
  abbrev pub AcceptedLogsLawful : Type 0
  AcceptedLogsLawful = (log : List (Entry BoundTree)) (s : SessionState) → AreAccepted empty_state log s
      → IsLawful bound_claims true spent_on_trust machine (map (λ e. e.event) log) log

  abbrev pub OneMoreAccepted : Type 0
  OneMoreAccepted = (log : List (Entry BoundTree)) (e : Entry BoundTree) (s mid s' : SessionState) → AreAccepted s log mid → IsAccepted mid e s' → AreAccepted s (log ++ e ∷ []) s'
