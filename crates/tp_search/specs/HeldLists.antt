-- The list that a search opened last, which the board still carries.
use Rattle.std.specs.Prelude.{◌≡◌, ℕ, ◌+◌, ◌-◌, ◌<◌, ◌≤◌, List, ◌∷◌, ◌++◌, [], length, Option, Some, None, IsSomeAnd}
use Rattle.tp_base.specs.Readings.{Reading}
use Rattle.tp_machine.specs.declared.parts.State.{State}
use Rattle.tp_machine.specs.declared.machine.Machine.{Machine}
use Rattle.tp_pool.specs.Entries.{choices_of}
use Rattle.tp_pool.specs.declared.choice.Choice.{Choice as Stored}
use Rattle.tp_schedule.specs.Choices.{going}
use Rattle.tp_schedule.specs.declared.parts.Ask.{Ask}
use Rattle.tp_schedule.specs.declared.parts.Plan.{Plan}
use Rattle.tp_placing.specs.Boards.{BoardContent, BoardValue, content_of, past_of, suffix_after}
use Rattle.tp_placing.specs.Calls.{IsSameLoad}
use Rattle.tp_placing.specs.LoadedBoard.{Stands}
use Rattle.tp_search.specs.Boards.{HasMarks, IsBack}
use Rattle.tp_search.specs.StoredLists.{HasList, IsWayTo}
use Rattle.tp_search.specs.Stored.{choices_by}
use Rattle.tp_search.specs.Stores.{StoreValue}
use Rattle.tp_search.specs.declared.held_list.HeldList.{HeldList}
use Rattle.tp_search.specs.declared.held_list.Root.{Root}

-- these choices are those before and one more, for the same goal
pub record IsOneMore (goal : State) (before choices : List Stored) : Type 0 where
  pub newest : Stored
  pub same : choices ≡ newest ∷ before
  pub same_goal : newest.goal ≡ goal

module _ {N : Type 0} (reading : Reading N) where
  -- the board carries the held list, and each list that was stored since is a child of it
  pub record HoldsList (b : BoardValue N) (machine : Machine) (ask : Ask) (s : StoreValue) (held : HeldList) : Type 0 where
    pub goal : State
    pub before : List Stored
    pub laid : HasList reading b machine ask held.laid.first (going goal (choices_by machine before))
    pub children : (node : ℕ) → held.stored ≤ node → node < length s.entries → IsOneMore goal before (choices_of s.entries node)

-- the content is that of a board which carries the goal's list without choices
abbrev pub CarriesGoal : Machine → List Plan → Ask → State → BoardContent → Type 0
CarriesGoal machine plans ask goal x = IsSomeAnd (suffix_after x.steps) (IsWayTo machine plans ask goal (going goal []))

-- what the marks behind the base keep: nothing, or the goal's list
abbrev pub AreKept : Machine → List Plan → Ask → ℕ → Option Root → List BoardContent → Type 0
AreKept machine plans ask base None kept = kept ≡ []
AreKept machine plans ask base (Some root) kept = (x : BoardContent) × (kept ≡ x ∷ []) × (root.mark.0 ≡ base + 1) × CarriesGoal machine plans ask root.goal x

module _ {N : Type 0} (reading : Reading N) where
  -- a mark more at the goal is set only where one is spare
  abbrev pub HasRoomFor : Option Root → BoardValue N → Type 0
  HasRoomFor None b = Unit {0}
  HasRoomFor (Some root) b = HasMarks reading 8 b

  -- the second board is the first one with what was laid since a mark of this number, and perhaps one more mark at the goal
  pub record IsLaidSince (b b' : BoardValue N) (machine : Machine) (ask : Ask) (base : ℕ) (root : Option Root) : Type 0 where
    pub number : base ≡ length (past_of reading b)
    pub kept : List BoardContent
    pub past_more : past_of reading b' ≡ past_of reading b ++ content_of reading b ∷ kept
    pub are_kept : AreKept machine b.plans ask base root kept
    pub room : HasRoomFor root b
    pub loaded : IsSameLoad b b'
    pub marks : reading.max_marks b'.net - 1 ≡ reading.max_marks b.net - 1
    pub stands : Stands reading b' machine

  -- the second board is back where the first one was, or has a list that was laid since a mark on that one
  abbrev pub IsOver : BoardValue N → BoardValue N → Machine → Ask → Option HeldList → Type 0
  IsOver b b' machine ask None = IsBack reading b b' machine
  IsOver b b' machine ask (Some held) = IsLaidSince b b' machine ask held.base.0 held.root
