-- The moves of other plans, as they are looked at.
use Rattle.std.specs.Prelude.{◌≡◌, ℕ, ◌==◌, ◌&&◌, ◌≤◌, Bool, not, List, [], ◌∷◌, ◌++◌, drop, length, map, Option, Some, None, All, IsFalse, IsTrue, if◌then◌else◌}
use Rattle.std.specs.Str.{bytes_eq}
use Rattle.tp_log.specs.declared.item.Item.{Item}
use Rattle.tp_log.specs.declared.item.Item.TheVariants.{Note}
use Rattle.tp_machine.specs.declared.machine.Machine.{Machine}
use Rattle.tp_schedule.specs.Answers.{KeepsFloors, KeepsHorizon}
use Rattle.tp_schedule.specs.Plans.{AreNamed, IsTimedPlan}
use Rattle.tp_schedule.specs.declared.parts.Plan.{Plan}
use Rattle.tp_schedule.specs.declared.parts.SheetId.{SheetId}
use Rattle.tp_schedule.specs.declared.records.Record.TheVariants.{Move}
use Rattle.tp_schedule.specs.declared.records.SheetName.{SheetName}
use Rattle.tp_event_rules.specs.AnswerRecords.{label_of_plan, moves}
use Rattle.tp_schedule_check.specs.Early.{is_exempt}
use Rattle.tp_schedule_check.specs.Alike.{AreAlike, others}
use Rattle.tp_log_planner.specs.ToldAnswers.{begins_with_move, notes}

abbrev pub is_same_label : SheetName → SheetName → Bool
is_same_label a b = bytes_eq a.job b.job && ((a.number == b.number) && (a.copy == b.copy))

-- as many points as the plan has, and others
abbrev pub other_points : Plan → List ℕ → Option (List ℕ)
other_points p points = if (length points == length p.points) && not (bytes_eq p.points points) then Some points else None

-- the points to which an item moves the plan, if it does: as many as it has, and others
abbrev pub moved_by : Plan → Item → Option (List ℕ)
moved_by p (Note (Move sheet points)) =
    if is_same_label sheet (label_of_plan p) then other_points p points else None
moved_by p _ = None

abbrev pub moved_points : Plan → List Item → Option (List ℕ)
moved_points p [] = None
moved_points p (item ∷ items) = moved_by p item

-- those of a plan that is not the asked copy's
abbrev pub points_for : Option SheetId → Plan → List Item → Option (List ℕ)
points_for asked p items = if is_exempt asked p then None else moved_points p items

-- the items behind the moves of these plans: of each in turn the first item is taken if it moves that plan
abbrev pub behind_move : Option (List ℕ) → List Item → List Item
behind_move None items = items
behind_move (Some points) items = drop 1 items

abbrev pub behind_moves : Option SheetId → List Plan → List Item → List Item
behind_moves asked [] items = items
behind_moves asked (p ∷ plans) items = behind_moves asked plans (behind_move (points_for asked p items) items)

-- one more move stands there, of so many items
abbrev pub IsMoveOver : Option SheetId → List Plan → List Item → ℕ → Type 0
IsMoveOver asked plans items left = (left ≡ length (behind_moves asked plans items)) × IsTrue (begins_with_move (behind_moves asked plans items))

-- a plan by itself: timed, and within floors and horizon
pub record IsKeptPlan (machine : Machine) (now : ℕ) (exempt : Option SheetId) (p : Plan) : Type 0 where
  pub timed : IsTimedPlan machine p
  pub floors : KeepsFloors machine now (is_exempt exempt) (p ∷ [])
  pub horizon : KeepsHorizon machine now (p ∷ [])

-- the items tell that the plans move so, and each of them is right by itself; these are left, of which the first is no move
pub record TellsMoves (machine : Machine) (now : ℕ) (plans others : List Plan) (items rest : List Item) : Type 0 where
  pub told : items ≡ notes (moves plans others) ++ rest
  pub over : IsFalse (begins_with_move rest)
  pub alike : AreAlike plans others
  pub kept : All (IsKeptPlan machine now None) others

-- so many of the items tell that the plans of one schedule, but for the asked one, move to those of another: this alone
pub record TakesMoves (machine : Machine) (now : ℕ) (asked : Option SheetId) (before after : List Plan) (items : List Item) (taken : ℕ) : Type 0 where
  pub within : taken ≤ length items
  pub sheets : map (λ p. p.sheet) after ≡ map (λ p. p.sheet) before
  pub told : items ≡ notes (moves (others asked before) (others asked after)) ++ drop taken items
  pub left : drop taken items ≡ behind_moves asked before items
  pub only : AreNamed before → (qs : List Plan) (rest : List Item) → TellsMoves machine now (others asked before) qs items rest → (qs ≡ others asked after) × (rest ≡ drop taken items)

-- some moves are given of plans whose jobs have different names
abbrev pub DoTellMoves : Machine → ℕ → Option SheetId → List Plan → List Item → Type 0
DoTellMoves machine now asked before items = AreNamed before × ((qs : List Plan) × ((rest : List Item) × TellsMoves machine now (others asked before) qs items rest))
