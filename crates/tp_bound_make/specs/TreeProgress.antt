-- A tree that is made on a board: the nodes so far and what is still due behind them, and what the board carries.
use Rattle.std.specs.Prelude.{◌≡◌, ℕ, zero, suc, ◌+◌, ◌*◌, ◌-◌, ◌<◌, ◌≤◌, nat_lt, List, [], ◌∷◌, ◌++◌, length, slice_get, All, Option, Some, None, ℤ, pos, IsFalse, MatchOption, false, if◌then◌else◌}
use Rattle.tp_base.specs.Readings.{Reading}
use Rattle.tp_machine.specs.Limits.{most_act_holds}
use Rattle.tp_bounds.specs.declared.tree.Head.{Head}
use Rattle.tp_bounds.specs.declared.tree.Node.{Node}
use Rattle.tp_bounds.specs.declared.tree.TreeRow.{TreeRow}
use Rattle.tp_machine.specs.ModuleUse.{action_at}
use Rattle.tp_machine.specs.declared.parts.ActId.{ActId}
use Rattle.tp_machine.specs.declared.parts.HoldRule.{HoldRule}
use Rattle.tp_machine.specs.declared.parts.State.{State}
use Rattle.tp_machine.specs.declared.machine.Machine.{Machine}
use Rattle.tp_schedule.specs.Answers.{kept_of}
use Rattle.tp_schedule.specs.Choices.{Choice}
use Rattle.tp_schedule.specs.Holders.{holds_of_act}
use Rattle.tp_schedule.specs.Limits.{most_acts}
use Rattle.tp_schedule.specs.PlannerAnswers.{IsKnownGoal}
use Rattle.tp_schedule.specs.declared.parts.Ask.{Ask}
use Rattle.tp_schedule.specs.declared.parts.Plan.{Plan}
use Rattle.tp_constraints.specs.Suffixes.{Suffix, order_in}
use Rattle.tp_placing.specs.Boards.{BoardValue, content_of, past_of, suffix_of}
use Rattle.tp_placing.specs.Calls.{IsSameLoad}
use Rattle.tp_placing.specs.LoadedBoard.{Stands}
use Rattle.tp_bound_laws.specs.Places as places
use Rattle.tp_bound_laws.specs.Places.Due.{goal}
use Rattle.tp_bound_laws.specs.Places.{Due, action_due, actions_due, children, due_behind, is_begun, places_from, stand_of, stop_due}
use Rattle.tp_bound_laws.specs.Once.{PassOnce}
use Rattle.tp_bound_laws.specs.Short.{IsOfFewHops}
use Rattle.tp_bound_laws.specs.Trees.{Covers}
use Rattle.tp_constraints.specs.Ends.{EndsBy, HasEndBy}
use Rattle.tp_constraints.specs.Ways.{IsWay}
use Rattle.tp_bound_make.specs.RoomRows.{HasRooms}
use Rattle.tp_bound_make.specs.declared.scene.ShowBranch.{ShowBranch}
use Rattle.tp_bound_make.specs.declared.scene.NotShown.{NotShown}
use Rattle.tp_bound_make.specs.declared.scene.NotShown.TheVariants.{Early, Memory}

module _ (machine : Machine) (plans : List Plan) (ask : Ask) (rows : List TreeRow) (limit : ℤ) where
  -- nodes of few hops, which pass no point twice, cover what is due
  unfoldable pub CoversBriefly : List Due → List Node → Type 0
  CoversBriefly ds nodes = Covers machine plans ask rows limit ds nodes × All IsOfFewHops nodes × PassOnce machine plans ask rows limit ds nodes

  -- with nodes that cover what is due behind these, all that was due at the start is covered
  abbrev pub LeadsTo : List Due → List Node → List Due → Type 0
  LeadsTo start nodes ds = (tail : List Node) → CoversBriefly ds tail → CoversBriefly start (nodes ++ tail)

  -- where some dues were first, others are in their place with the new nodes
  abbrev pub Adds : List Due → List Node → List Node → List Due → Type 0
  Adds ds old new more = (start rest : List Due) → LeadsTo start old (ds ++ rest) → LeadsTo start new (more ++ rest)

-- the same whatever the rows are, if they have the rooms
abbrev pub Shows : Machine → List Plan → Ask → List (Option ℕ) → ℕ → List Node → List Node → (List TreeRow → List Due) → (List TreeRow → List Due) → Type 0
Shows machine plans ask sums limit old new ds more = (rows : List TreeRow) → HasRooms machine sums rows → Adds machine plans ask rows (pos limit) (ds rows) old new (more rows)

-- a node with this head is put where a branch is due, and leaves this due below it
abbrev pub PutsNode : Machine → List Plan → Ask → ℕ → List Node → List Node → places.Branch → Head → (List TreeRow → List Due) → Type 0
PutsNode machine plans ask limit old new b head more = (rows : List TreeRow) (d : Due) → stand_of machine plans ask rows d head ≡ Some (record { branch = b; span = None })
    → Adds machine plans ask rows (pos limit) (d ∷ []) old new (more rows ++ due_behind machine plans ask rows d head)

-- ---- branches
-- the hold of the newest choice that has no place yet
abbrev pub hold_after : Machine → Option ActId → ℕ → Option HoldRule
hold_after machine None places = None
hold_after machine (Some act) places = slice_get (holds_of_act (action_at machine act.0)) places

abbrev pub hold_of : Machine → ShowBranch → Option HoldRule
hold_of machine r = hold_after machine r.newest r.places

-- the newest choice is of the action, and has so many places
abbrev pub IsNewest : Machine → Option ActId → ℕ → List Choice → Type 0
IsNewest machine None places [] = places ≡ 0
IsNewest machine None places (c ∷ choices) = ⊥
IsNewest machine (Some act) places [] = ⊥
IsNewest machine (Some act) places (c ∷ choices) = (c.act ≡ act) × (length c.places ≡ places) × (act.0 < length machine.actions)

-- the branch of a tree
abbrev pub branch_by : ShowBranch → Suffix → places.Branch
branch_by r x = record { depth = r.depth; first = r.first; x = x }

-- how much may still come below a branch
abbrev pub below : ShowBranch → ℕ
below r = 5 * (most_acts - r.count) + (most_act_holds - r.places)

-- how many ways go on from a suffix: the places of its next hold, or the stop and all actions
abbrev pub ways_of : Machine → List Plan → Ask → Suffix → Option HoldRule → ℕ
ways_of machine plans ask x (Some rule) = suc (length (order_in machine plans x rule.resource.0))
ways_of machine plans ask x None = if nat_lt (kept_of ask + length x.choices) most_acts then suc (length machine.actions) else 1

module _ (machine : Machine) (plans : List Plan) (ask : Ask) (rows : List TreeRow) where
  -- the dues of actions from one on
  abbrev pub acts_from : places.Branch → ℕ → ℕ → List Due
  acts_from b at zero = []
  acts_from b at (suc more) = action_due machine plans ask rows b (record { 0 = at }) ++ acts_from b (suc at) more

  -- what is due below a branch from a way on: the places of its next hold, or its stop and its actions
  abbrev pub left_of : places.Branch → Option HoldRule → ℕ → List Due
  left_of b (Some rule) way = places_from machine plans ask rows b rule way
  left_of b None zero = stop_due machine plans ask rows b ++ actions_due machine plans ask rows b
  left_of b None (suc way) = if nat_lt (kept_of ask + length b.x.choices) most_acts then acts_from b way (length machine.actions - way) else []

  abbrev pub or_no_dues : Option (List Due) → List Due
  or_no_dues None = []
  or_no_dues (Some ds) = ds

  -- the children of a branch, if it may be split
  abbrev pub kids_of : places.Branch → List Due
  kids_of b = or_no_dues (children machine plans ask rows (record { branch = b; span = None }))

-- ---- boards
module _ {N : Type 0} (reading : Reading N) where
  -- the board carries a branch that goes on, a way to a goal
  pub record Carries (machine : Machine) (ask : Ask) (b : BoardValue N) (r : ShowBranch) (x : Suffix) : Type 0 where
    pub carried : suffix_of b ≡ Some x
    pub going : IsFalse x.stopped
    pub count : r.count ≡ length x.choices
    pub newest : IsNewest machine r.newest r.places x.choices
    pub known : r.first.loc.0 < length machine.locations
    pub goal : State
    pub way : IsWay machine b.plans ask goal r.first x
    pub few : kept_of ask + length x.choices ≤ most_acts
    pub few_places : r.places ≤ most_act_holds
    pub deep : r.depth ≤ 5 * r.count + r.places

  -- a board for the ask, whose tray is one of the machine's
  pub record IsSet (machine : Machine) (ask : Ask) (b : BoardValue N) : Type 0 where
    pub stands : Stands reading b machine
    pub asked : b.ask ≡ Some ask
    pub goal : IsKnownGoal machine ask.goal

  -- the same marks are in force, and the same is loaded
  pub record IsSince (b b' : BoardValue N) (machine : Machine) : Type 0 where
    pub past_same : past_of reading b' ≡ past_of reading b
    pub load : IsSameLoad b b'
    pub room : reading.max_marks b'.net - 1 ≡ reading.max_marks b.net - 1
    pub stands : Stands reading b machine → Stands reading b' machine

  -- and the board carries what it carried
  pub record IsBack (b b' : BoardValue N) (machine : Machine) : Type 0 where
    pub content_same : content_of reading b' ≡ content_of reading b
    pub since : IsSince b b' machine

  -- so many marks of the board are spare, one of the network being its own
  abbrev pub HasMarks : ℕ → BoardValue N → Type 0
  HasMarks count b = length (past_of reading b) + count ≤ reading.max_marks b.net - 1

-- the branch may be split: it is not complete
abbrev pub IsOpen : Machine → Ask → ShowBranch → Type 0
IsOpen machine ask r = hold_of machine r ≡ None → is_begun machine ask ask.origin r.first ≡ false

-- what the board carries has times that end by the limit
abbrev pub IsEarly : {N : Type 0} → Machine → Ask → ℕ → BoardValue N → Type 0
IsEarly machine ask limit b = (x : Suffix) → suffix_of b ≡ Some x → HasEndBy machine b.plans ask x limit

-- what is answered for an early branch: some alternative ends by the limit
abbrev pub IsEarlyEnd : Machine → List Plan → Ask → ℕ → NotShown → Type 0
IsEarlyEnd machine plans ask limit Memory = Unit {0}
IsEarlyEnd machine plans ask limit Early = EndsBy machine plans ask limit

-- a way was gone: its node leaves what is due behind it, or the board carries a branch that is split, below which the walk is
-- to go on
module _ {N : Type 0} (reading : Reading N) (machine : Machine) (plans : List Plan) (ask : Ask) (sums : List (Option ℕ)) (limit : ℕ) (old new : List Node) (b : BoardValue N) (parent : ShowBranch) where
  pub record GoesOn (ds behind : List TreeRow → List Due) (child : ShowBranch) : Type 0 where
    pub suffix : Suffix
    pub carries : Carries reading machine ask b child suffix
    pub smaller : below child < below parent
    pub is_open : IsOpen machine ask child
    pub early : HasEndBy machine plans ask suffix limit
    pub shows : Shows machine plans ask sums limit old new ds (λ rows. kids_of machine plans ask rows (branch_by child suffix) ++ behind rows)

  abbrev pub IsEntered : (List TreeRow → List Due) → (List TreeRow → List Due) → Option ShowBranch → Type 0
  IsEntered ds behind o = MatchOption o (Shows machine plans ask sums limit old new ds behind) (GoesOn ds behind)

-- a goal was opened: its node leaves nothing due, or the board carries its branch, which is split
module _ {N : Type 0} (reading : Reading N) (machine : Machine) (plans : List Plan) (ask : Ask) (sums : List (Option ℕ)) (limit : ℕ) (old new : List Node) (b : BoardValue N) (s : State) where
  pub record GoalGoesOn (child : ShowBranch) : Type 0 where
    pub suffix : Suffix
    pub carries : Carries reading machine ask b child suffix
    pub is_open : IsOpen machine ask child
    pub early : HasEndBy machine plans ask suffix limit
    pub shows : Shows machine plans ask sums limit old new (λ _. goal s ∷ []) (λ rows. kids_of machine plans ask rows (branch_by child suffix))

  abbrev pub IsGoalEntered : Option ShowBranch → Type 0
  IsGoalEntered o = MatchOption o (Shows machine plans ask sums limit old new (λ _. goal s ∷ []) (λ _. [])) GoalGoesOn
