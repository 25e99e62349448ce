-- The trees of a log in their places: behind each plan and its moves, and behind each none, stands the tree that proves it.
use Rattle.std.specs.Prelude.{◌≡◌, ℕ, ◌≤◌, List, [], ◌∷◌, ◌++◌, length, map, All, Option, Some, IsTrue}
use Rattle.tp_bounds.specs.Trees.{tree_lines}
use Rattle.tp_bounds.specs.declared.tree.BoundTree.{BoundTree}
use Rattle.tp_machine.specs.declared.machine.Machine.{Machine}
use Rattle.tp_schedule.specs.Plans.{end_of_plan, plan_of}
use Rattle.tp_schedule.specs.declared.parts.Plan.{Plan}
use Rattle.tp_schedule.specs.declared.records.Record.{Record}
use Rattle.tp_schedule.specs.declared.records.Record.TheVariants.{Plan as TellsPlan, Never as TellsNever}
use Rattle.tp_schedule.specs.declared.records.SheetName.{SheetName}
use Rattle.tp_bound_laws.specs.Claims.{IsTreeFor}
use Rattle.tp_bound_laws.specs.Short.{most_bytes}
use Rattle.tp_bound_laws.specs.declared.claim.Claim.TheVariants.{Earliest, Never}
use Rattle.tp_log.specs.declared.item.Item.{Item}
use Rattle.tp_log.specs.declared.item.Item.TheVariants as item
use Rattle.tp_event_rules.specs.Logs.{Entry}
use Rattle.tp_event_rules.specs.States.{SessionState}
use Rattle.tp_headline.specs.Given.{IsEarliestThere, IsNoneThere}
use Rattle.tp_run_laws.specs.Runs.{is_move, items_in, spent_by}

-- the records among items
abbrev pub records_in : List Item → List Record
records_in [] = []
records_in (item.Event event ∷ items) = records_in items
records_in (item.Note told ∷ items) = told ∷ records_in items
records_in (item.Tree tree ∷ items) = records_in items

-- no line is longer than 4,194,304 bytes
abbrev pub HasShortLines : BoundTree → Type 0
HasShortLines tree = All (λ line. length line ≤ most_bytes) (tree_lines tree)

module _ (machine : Machine) (nodes : ℕ) (log : List (Entry BoundTree)) (last : SessionState) where
  -- the plan is earliest there. Behind it and the moves of its answer stands a tree for the claim that, on the schedule that
  -- was asked, no alternative ends the copy before the plan does
  pub record IsProvedPlan (before : List Record) (told : Record) (behind : List Item) : Type 0 where
    pub answer : IsEarliestThere (spent_by nodes) machine log last before told
    pub plan : Plan
    pub planned : plan_of answer.ask.sheet answer.after ≡ Some plan
    pub moves : List Record
    pub moved : All (λ m. IsTrue (is_move m)) moves
    pub tree : BoundTree
    pub rest : List Item
    pub stands : behind ≡ map (λ m. item.Note m) moves ++ item.Tree tree ∷ rest
    pub proves : IsTreeFor machine answer.plans answer.ask (Earliest (end_of_plan plan)) tree
    pub short : HasShortLines tree

  -- directly behind the none stands a tree for the claim that, on the schedule that was asked, there is no alternative
  pub record IsProvedNone (before : List Record) (told : Record) (behind : List Item) : Type 0 where
    pub answer : IsNoneThere (spent_by nodes) machine log last before told
    pub tree : BoundTree
    pub rest : List Item
    pub stands : behind ≡ item.Tree tree ∷ rest
    pub proves : IsTreeFor machine answer.plans answer.ask Never tree
    pub short : HasShortLines tree

  -- so it is with each plan and each none of the log
  pub record AreProved : Type 0 where
    pub plans : (before after : List Item) (copy : SheetName) (place points : List ℕ) (acts : List (List ℕ))
        → items_in log ≡ before ++ item.Note (TellsPlan copy place points acts) ∷ after
        → IsProvedPlan (records_in before) (TellsPlan copy place points acts) after
    pub nones : (before after : List Item) (copy : SheetName) (goal : Option (List ℕ))
        → items_in log ≡ before ++ item.Note (TellsNever copy goal) ∷ after
        → IsProvedNone (records_in before) (TellsNever copy goal) after
