-- The places of a tree: what is due there, and which nodes may stand there.
use Rattle.std.specs.Prelude.{ℕ, zero, suc, ◌+◌, Bool, true, false, ◌&&◌, ◌||◌, not, nat_le, nat_lt, ◌==◌, List, [], ◌∷◌, ◌++◌, length, filter, flat_map, find, slice_get, Option, Some, None, if◌then◌else◌}
use Rattle.std.specs.List.{list_any}
use Rattle.std.specs.Str.{bytes_eq}
use Rattle.tp_bounds.specs.declared.tree.Head.{Head}
use Rattle.tp_bounds.specs.declared.tree.Head.TheVariants.{Goal as GoalHead, Act as ActHead, At as AtHead, Stop as StopHead}
use Rattle.tp_bounds.specs.declared.tree.TreeRow.{TreeRow}
use Rattle.tp_machine.specs.Steps.{step_of}
use Rattle.tp_machine.specs.ModuleUse.{action_at}
use Rattle.tp_machine.specs.declared.parts.ActId.{ActId}
use Rattle.tp_machine.specs.declared.parts.Action.{Action}
use Rattle.tp_machine.specs.declared.parts.Face.{Face}
use Rattle.tp_machine.specs.declared.parts.Face.TheVariants.{Front, Back}
use Rattle.tp_machine.specs.declared.parts.HoldRule.{HoldRule}
use Rattle.tp_machine.specs.declared.parts.LocId.{LocId}
use Rattle.tp_machine.specs.declared.parts.Resource.{Resource}
use Rattle.tp_machine.specs.declared.parts.Sheet.{Sheet}
use Rattle.tp_machine.specs.declared.parts.State.{State}
use Rattle.tp_machine.specs.declared.machine.Machine.{Machine}
use Rattle.tp_schedule.specs.Answers.{kept_of}
use Rattle.tp_schedule.specs.Choices.{Choice}
use Rattle.tp_schedule.specs.Holders.{holds_of_act}
use Rattle.tp_schedule.specs.Limits.{most_acts}
use Rattle.tp_schedule.specs.LocationSets.{has}
use Rattle.tp_schedule.specs.Routes.{finished, fresh, is_wanted, is_act_allowed}
use Rattle.tp_schedule.specs.declared.parts.Ask.{Ask}
use Rattle.tp_schedule.specs.declared.parts.Goal.{Goal}
use Rattle.tp_schedule.specs.declared.parts.Goal.TheVariants.{Tray, Purge}
use Rattle.tp_schedule.specs.declared.parts.Origin.{Origin}
use Rattle.tp_schedule.specs.declared.parts.Origin.TheVariants.{Feeder as FromFeeder, Front as FromFront}
use Rattle.tp_schedule.specs.declared.parts.Plan.{Plan}
use Rattle.tp_constraints.specs.Suffixes.{Suffix, order_in, with_goal, with_action, with_place, with_stop}
use Rattle.tp_bound_laws.specs.Rows.{row_of, is_state, is_same_state, state_of}

-- ---- goals

abbrev pub faces : List Face
faces = Front ∷ Back ∷ []

abbrev pub sides : List Bool
sides = false ∷ true ∷ []

-- a side that is done is wanted
abbrev pub is_done_wanted : Sheet → State → Bool
is_done_wanted sheet s = (not s.front_done || is_wanted sheet.front) && (not s.back_done || is_wanted sheet.back)

-- the states at a location, in the order of the rows
abbrev pub states_at : LocId → List State
states_at loc = flat_map (λ up. flat_map (λ front. flat_map (λ back. record { loc = loc; up = up; front_done = front; back_done = back } ∷ []) sides) sides) faces

-- the locations below a number, the lowest first
abbrev pub locations_below : ℕ → List LocId
locations_below zero = []
locations_below (suc n) = locations_below n ++ record { 0 = n } ∷ []

abbrev pub is_purge : Machine → LocId → Bool
is_purge machine loc = list_any (λ p. p.0 == loc.0) machine.purges

-- the goal states of an ask: the one of a tray, or those at the purge trays whose done sides are wanted
abbrev pub goal_states : Machine → Sheet → Goal → List State
goal_states machine sheet (Tray t) = finished sheet t ∷ []
goal_states machine sheet Purge = filter (is_done_wanted sheet) (flat_map states_at (filter (is_purge machine) (locations_below (length machine.locations))))

-- ---- states

-- the state from which an action leads to this one, if there is one
abbrev pub state_before : Sheet → State → Option Action → Option State
state_before sheet s None = None
state_before sheet s (Some a) = find (λ q. is_state s (step_of a sheet q)) (states_at a.from)

-- for a new copy, whether the state is a start state
abbrev pub is_begun : Machine → Ask → Origin → State → Bool
is_begun machine ask FromFeeder s = list_any (λ f. bytes_eq f.media ask.want.media && is_same_state s (fresh f.loc)) machine.feeders && not (has ask.empty s.loc)
is_begun machine ask (FromFront state end count) s = false

-- for a copy in flight, whether the state is the front's
abbrev pub is_front_state : Origin → State → Bool
is_front_state FromFeeder s = false
is_front_state (FromFront state end count) s = is_same_state s state

-- ---- branches

-- a branch: the choices so far, with a room for each own point, and the state before them
pub record Branch : Type 0 where
  pub depth : ℕ
  pub first : State
  pub x : Suffix

-- the hold of the newest choice that has no place yet, if there is one
abbrev pub rule_in : Machine → List Choice → Option HoldRule
rule_in machine [] = None
rule_in machine (c ∷ choices) = slice_get (holds_of_act (action_at machine c.act.0)) (length c.places)

abbrev pub next_rule : Machine → Suffix → Option HoldRule
next_rule machine x = rule_in machine x.choices

-- the place of a node that is due: a goal, an action before a branch that leads there from a state, places from a number on
-- for a branch's next hold, or the stop of a branch
pub data Due : Type 0 where
  goal : State → Due
  action : Branch → ActId → State → Due
  places : Branch → HoldRule → ℕ → Due
  stop : Branch → Due

-- the places of a hold, from the first to the last, where they are several
pub record Span : Type 0 where
  pub rule : HoldRule
  pub lo : ℕ
  pub hi : ℕ

-- where a node stands: a branch, and for a node with several places the hold that has them
pub record Stand : Type 0 where
  pub branch : Branch
  pub span : Option Span

abbrev pub or_zero : Option ℕ → ℕ
or_zero None = 0
or_zero (Some n) = n

module _ (machine : Machine) (plans : List Plan) (ask : Ask) (rows : List TreeRow) where
  -- the number of the state's row, or 0
  abbrev pub room_at : State → ℕ
  room_at s = or_zero (row_of machine rows s)

  abbrev pub goal_branch : State → Branch
  goal_branch s = record { depth = 0; first = s; x = with_goal (room_at s) }

  abbrev pub action_branch : Branch → ActId → State → Branch
  action_branch b act s = record { depth = suc b.depth; first = s; x = with_action act (room_at s) b.x }

  abbrev pub place_branch : Branch → ℕ → Branch
  place_branch b place = record { depth = suc b.depth; first = b.first; x = with_place place b.x }

  abbrev pub stop_branch : Branch → Branch
  stop_branch b = record { depth = suc b.depth; first = b.first; x = with_stop b.x }

  -- ---- heads

  abbrev pub is_name_of_act : List ℕ → Option Action → Bool
  is_name_of_act name None = false
  is_name_of_act name (Some a) = bytes_eq name a.name

  abbrev pub is_name_of_resource : List ℕ → Option Resource → Bool
  is_name_of_resource name None = false
  is_name_of_resource name (Some r) = bytes_eq name r.name

  abbrev pub alone : Branch → Stand
  alone b = record { branch = b; span = None }

  -- a hold at the places from lo to hi: one place, or several
  abbrev pub at_places : Branch → HoldRule → ℕ → ℕ → Stand
  at_places b rule lo hi = if lo == hi then alone (place_branch b lo) else record { branch = record { depth = suc b.depth; first = b.first; x = b.x }; span = Some (record { rule = rule; lo = lo; hi = hi }) }

  abbrev pub order_length : Branch → HoldRule → ℕ
  order_length b rule = length (order_in machine plans b.x rule.resource.0)

  -- where a node with this head stands, if it is the one that is due
  abbrev pub stand_of : Due → Head → Option Stand
  stand_of (goal s) (GoalHead named) = if is_state s (state_of machine named) then Some (alone (goal_branch s)) else None
  stand_of (goal s) _ = None
  stand_of (action b act s) (ActHead name) = if is_name_of_act name (action_at machine act.0) then Some (alone (action_branch b act s)) else None
  stand_of (action b act s) _ = None
  stand_of (places b rule lo) (AtHead name from to) =
      if is_name_of_resource name (slice_get machine.resources rule.resource.0) && (from == lo) && nat_le from to && nat_le to (order_length b rule) then Some (at_places b rule from to) else None
  stand_of (places b rule lo) _ = None
  stand_of (stop b) StopHead = Some (alone (stop_branch b))
  stand_of (stop b) _ = None

  -- what else is due of the places, behind those of the node
  abbrev pub places_from : Branch → HoldRule → ℕ → List Due
  places_from b rule lo = if nat_le lo (order_length b rule) then places b rule lo ∷ [] else []

  abbrev pub due_behind : Due → Head → List Due
  due_behind (places b rule lo) (AtHead name from to) = places_from b rule (suc to)
  due_behind (places b rule lo) _ = []
  due_behind (goal s) head = []
  due_behind (action b act s) head = []
  due_behind (stop b) head = []

  -- ---- children

  abbrev pub has_choice : List Choice → Bool
  has_choice [] = false
  has_choice (c ∷ choices) = true

  abbrev pub stop_due : Branch → List Due
  stop_due b = if is_front_state ask.origin b.first && has_choice b.x.choices then stop b ∷ [] else []

  abbrev pub due_from : Branch → ActId → Option State → List Due
  due_from b act None = []
  due_from b act (Some s) = action b act s ∷ []

  abbrev pub action_due : Branch → ActId → List Due
  action_due b act = if is_act_allowed machine ask.outs act then due_from b act (state_before ask.want b.first (action_at machine act.0)) else []

  -- the allowed actions below a number that lead to the branch's state, in their order
  abbrev pub actions_below : Branch → ℕ → List Due
  actions_below b zero = []
  actions_below b (suc n) = actions_below b n ++ action_due b (record { 0 = n })

  abbrev pub actions_due : Branch → List Due
  actions_due b = if nat_lt (kept_of ask + length b.x.choices) most_acts then actions_below b (length machine.actions) else []

  -- the children of a branch all of whose holds have places, unless it is complete
  abbrev pub children_of : Branch → Option HoldRule → Option (List Due)
  children_of b (Some rule) = Some (places b rule 0 ∷ [])
  children_of b None = if is_begun machine ask ask.origin b.first then None else Some (stop_due b ++ actions_due b)

  -- what is due below a node that is split, if it may be split: a node with several places and a stopped one may not
  abbrev pub children_at : Branch → Option Span → Option (List Due)
  children_at b (Some span) = None
  children_at b None = if b.x.stopped then None else children_of b (next_rule machine b.x)

  abbrev pub children : Stand → Option (List Due)
  children s = children_at s.branch s.span
