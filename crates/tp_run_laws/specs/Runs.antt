-- A run of the program: the events of a script, the records of each with the trees that prove them, and the text of all.
use Rattle.std.specs.Prelude.{◌≡◌, ℕ, Bool, true, false, not, ◌&&◌, List, [], ◌∷◌, ◌++◌, map, take, drop, if◌then◌else◌}
use Rattle.std.specs.List.{flat_map}
use Rattle.tp_bounds.specs.declared.tree.BoundTree.{BoundTree}
use Rattle.tp_machine.specs.declared.machine.Machine.{Machine}
use Rattle.tp_schedule.specs.SpentBudget.{IsSpent}
use Rattle.tp_schedule.specs.declared.parts.Ask.{Ask}
use Rattle.tp_schedule.specs.declared.parts.Plan.{Plan}
use Rattle.tp_schedule.specs.declared.records.Record.{Record}
use Rattle.tp_schedule.specs.declared.records.Record.TheVariants.{Plan as TellsPlan, Move, Never as TellsNever}
use Rattle.tp_script.specs.declared.event.Event.{Event}
use Rattle.tp_bound_laws.specs.Short.{IsShortTreeFor}
use Rattle.tp_bound_laws.specs.declared.claim.Claim.TheVariants.{Earliest, Never}
use Rattle.tp_log.specs.Logs.{IsLog, log_text}
use Rattle.tp_log.specs.declared.item.Item.{Item}
use Rattle.tp_log.specs.declared.item.Item.TheVariants as item
use Rattle.tp_event_rules.specs.Logs.{Entry, IsLawful, Run, TreeClaims, right_answers}
use Rattle.tp_event_rules.specs.States.{SessionState}
use Rattle.tp_event_rules.specs.Turns.{Turn}

-- what a tree claims, on the live part of the schedule at the ask's moment: that no alternative ends before the tick, or
-- that there is none. Each of its nodes has few hops
abbrev pub tree_claims : TreeClaims BoundTree
tree_claims = record {
  none_before = λ machine plans ask end tree. IsShortTreeFor machine plans ask (Earliest end) tree;
  never = λ machine plans ask tree. IsShortTreeFor machine plans ask Never tree;
}

-- the budget of so many lists of choices is spent
abbrev pub spent_by : ℕ → Machine → List Plan → Ask → ℕ → Type 0
spent_by nodes machine plans ask bound = IsSpent machine plans ask nodes bound

-- the turn of an event in which each answer is right: a plan is earliest and least, none means that there is no
-- alternative, and budget that so many lists were open. With bounds the trees prove its plans and nones, one after another;
-- without bounds there are none
abbrev pub TurnOf : Machine → ℕ → Bool → Event → SessionState → List Record → List BoundTree → SessionState → Type 0
TurnOf machine nodes bounds event s records trees s' = Turn (right_answers tree_claims bounds (spent_by nodes) machine) machine event s trees records s' []

-- an event with its records and trees
abbrev pub entry_of : Event → List Record → List BoundTree → Entry BoundTree
entry_of event records trees = record { event = event; records = records; trees = trees }

-- ---- the places of trees

abbrev pub is_move : Record → Bool
is_move (Move sheet points) = true
is_move _ = false

abbrev pub begin_with_move : List Record → Bool
begin_with_move [] = false
begin_with_move (r ∷ records) = is_move r

-- whether a record is a plan, or a move directly behind a plan and its other moves
abbrev pub is_of_plan : Bool → Record → Bool
is_of_plan before (TellsPlan sheet place points acts) = true
is_of_plan before (Move sheet points) = before
is_of_plan before _ = false

-- how many trees stand between a record and the next ones: one behind a none, and one behind a plan and all its moves
abbrev pub trees_behind : Bool → Record → List Record → ℕ
trees_behind before (TellsNever sheet goal) records = 1
trees_behind before r records = if is_of_plan before r && not (begin_with_move records) then 1 else 0

-- the records with the trees in their places, the first tree in the first place
abbrev pub items_with : Bool → List Record → List BoundTree → List Item
items_with before [] trees = []
items_with before (r ∷ records) trees =
    item.Note r ∷ (map (λ t. item.Tree t) (take (trees_behind before r records) trees) ++ items_with (is_of_plan before r) records (drop (trees_behind before r records) trees))

-- the items of an entry, and of all
abbrev pub items_of : Entry BoundTree → List Item
items_of e = item.Event e.event ∷ items_with false e.records e.trees

abbrev pub items_in : List (Entry BoundTree) → List Item
items_in log = flat_map items_of log

-- the text of a log
abbrev pub run_text : List (Entry BoundTree) → List ℕ
run_text log = log_text (items_in log)

-- the log answers the events by a lawful run, with bounds or without, and each of its items has a text
pub record IsLawfulRun (machine : Machine) (nodes : ℕ) (bounds : Bool) (events : List Event) (log : List (Entry BoundTree)) : Type 0 where
  pub lawful : IsLawful tree_claims bounds (spent_by nodes) machine events log
  pub has_text : IsLog (items_in log)

-- from one state to another the log answers the events by turns of right answers, with bounds or without, and each of its items
-- has a text
pub record IsRunFrom (machine : Machine) (nodes : ℕ) (bounds : Bool) (start : SessionState) (events : List Event) (log : List (Entry BoundTree)) (last : SessionState) : Type 0 where
  pub answers : map (λ e. e.event) log ≡ events
  pub run : Run tree_claims bounds (spent_by nodes) machine start log last
  pub has_text : IsLog (items_in log)
