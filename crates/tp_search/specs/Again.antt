-- Laying again what a board carried: its changes one after another, without the stop, which comes last.
use Rattle.std.specs.Prelude.{◌≡◌, suc, ◌+◌, ◌≤◌, Bool, true, false, List, [], ◌∷◌, length, fold, Option, Some, None, IsFalse, IsSomeAnd}
use Rattle.tp_base.specs.Readings.{Reading}
use Rattle.tp_machine.specs.declared.machine.Machine.{Machine}
use Rattle.tp_schedule.specs.Answers.{kept_of}
use Rattle.tp_schedule.specs.Choices.{Choice}
use Rattle.tp_schedule.specs.Limits.{most_acts}
use Rattle.tp_schedule.specs.Spots.{Ticks, slot_order}
use Rattle.tp_schedule.specs.declared.parts.Ask.{Ask}
use Rattle.tp_schedule.specs.declared.parts.Plan.{Plan}
use Rattle.tp_constraints.specs.Suffixes.{HavePlacesSoFar, Suffix, SuffixTimes}
use Rattle.tp_placing.specs.Boards.{BoardValue, after_change, suffix_of}
use Rattle.tp_placing.specs.LoadedBoard.{Stands}
use Rattle.tp_placing.specs.Commits.{CanCommit}
use Rattle.tp_placing.specs.declared.parts.Change.{Change}
use Rattle.tp_placing.specs.declared.parts.Change.TheVariants.{Action, Goal as Open, Place, Stop}
use Rattle.tp_search.specs.StoredLists.{IsSameButSteps}
use Rattle.tp_search.specs.declared.replay.Reached.{Reached}
use Rattle.tp_search.specs.declared.replay.Reached.TheVariants.{Goal, Holds, Nothing}

-- what changes make of an empty board
abbrev pub suffix_by : List Change → Option Suffix
suffix_by changes = fold after_change None changes

-- and what they make of it without the stop
abbrev pub after_again : Option Suffix → Change → Option Suffix
after_again x (Open room) = after_change x (Open room)
after_again x (Action act room) = after_change x (Action act room)
after_again x (Place place) = after_change x (Place place)
after_again x Stop = x

abbrev pub again_by : List Change → Option Suffix
again_by changes = fold after_again None changes

-- how far a suffix is laid
abbrev pub reached_by : List Choice → Reached
reached_by [] = Goal
reached_by (c ∷ choices) = Holds (length c.places)

abbrev pub reached_in : Option Suffix → Reached
reached_in None = Nothing
reached_in (Some x) = reached_by x.choices

abbrev pub has_goal : Reached → Bool
has_goal Nothing = false
has_goal Goal = true
has_goal (Holds count) = true

-- a board can carry the suffix: it goes on, with its places within the orders, it has times, and its actions and the kept
-- ones are at most 64
pub record CanCarry (machine : Machine) (plans : List Plan) (ask : Ask) (x : Suffix) : Type 0 where
  pub rooms : length x.rooms ≡ suc (length x.choices)
  pub places : HavePlacesSoFar machine (slot_order machine plans) x.choices
  pub going : IsFalse x.stopped
  pub at_most : kept_of ask + length x.choices ≤ most_acts
  pub ticks : Ticks
  pub are_times : SuffixTimes machine plans ask x ticks

abbrev pub CanCarryIf : Machine → List Plan → Ask → Option Suffix → Type 0
CanCarryIf machine plans ask None = Unit {0}
CanCarryIf machine plans ask (Some x) = CanCarry machine plans ask x

-- the suffix is one that can be committed, and has times
pub record CanLayAgain (machine : Machine) (plans : List Plan) (ask : Ask) (x : Suffix) : Type 0 where
  pub commit : CanCommit machine plans ask x
  pub ticks : Ticks
  pub are_times : SuffixTimes machine plans ask x ticks

module _ {N : Type 0} (reading : Reading N) where
  -- the board is laid so far, and can carry what the change makes of it
  pub record CanMake (b : BoardValue N) (machine : Machine) (change : Change) (reached : Reached) : Type 0 where
    pub stands : Stands reading b machine
    pub reached_so : reached ≡ reached_in (suffix_of b)
    pub can : IsSomeAnd b.ask (λ ask. CanCarryIf machine b.plans ask (after_again (suffix_of b) change))

module _ {N : Type 0} (reading : Reading N) where
  -- the change was made
  pub record IsMade (b b' : BoardValue N) (machine : Machine) (change : Change) (reached : Reached) : Type 0 where
    pub stands : Stands reading b' machine
    pub suffix : suffix_of b' ≡ after_again (suffix_of b) change
    pub reached_so : reached ≡ reached_in (suffix_of b')
    pub same : IsSameButSteps reading b b'
