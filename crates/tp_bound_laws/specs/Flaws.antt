-- The first flaw of a tree that is none: of its rows, or else of its nodes.
use Rattle.std.specs.Prelude.{◌≡◌, ◌↔◌, ℕ, zero, suc, ◌+◌, Bool, true, false, not, ◌&&◌, ◌||◌, nat_le, List, [], ◌∷◌, ◌++◌, length, ℤ, Option, Some, None, if◌then◌else◌}
use Rattle.std.specs.List.{list_all, list_any}
use Rattle.std.specs.Str.{bytes_eq}
use Rattle.tp_bounds.specs.declared.tree.BoundTree.{BoundTree}
use Rattle.tp_bounds.specs.declared.tree.Node.{Node}
use Rattle.tp_bounds.specs.declared.tree.TreeRow.{TreeRow}
use Rattle.tp_machine.specs.declared.parts.ActId.{ActId}
use Rattle.tp_machine.specs.declared.parts.State.{State}
use Rattle.tp_machine.specs.declared.machine.Machine.{Machine}
use Rattle.tp_schedule.specs.LocationSets.{has}
use Rattle.tp_schedule.specs.Routes.{fresh, is_act_allowed, least_of, step_by}
use Rattle.tp_schedule.specs.declared.parts.Ask.{Ask}
use Rattle.tp_schedule.specs.declared.parts.Origin.{Origin}
use Rattle.tp_schedule.specs.declared.parts.Origin.TheVariants.{Feeder as FromFeeder, Front as FromFront}
use Rattle.tp_schedule.specs.declared.parts.Plan.{Plan}
use Rattle.tp_bound_laws.specs.declared.claim.TreeFlaw.{TreeFlaw}
use Rattle.tp_bound_laws.specs.declared.claim.TreeFlaw.TheVariants.{Memory, RoomRow, Uncovered, NoSuchHop, Weak, NotDead}
use Rattle.tp_bound_laws.specs.Places.{Due}
use Rattle.tp_bound_laws.specs.Rows.{is_state, state_of}
use Rattle.tp_bound_laws.specs.Trees.{IsBoundTree, Look, Wrong, goals_due, look}
use Rattle.tp_bound_laws.specs.Trees.Look.{due, wrong}
use Rattle.tp_bound_laws.specs.Trees.Wrong.{no_such_hop, not_dead, uncovered, weak}

-- ---- rows

module _ (machine : Machine) (ask : Ask) (rows : List TreeRow) where
  -- the state has a row with at most this number
  abbrev pub has_row_by : State → ℕ → Bool
  has_row_by s top = list_any (λ r. is_state s (state_of machine r.state) && nat_le r.room top) rows

  abbrev pub is_row_after : ℕ → Option State → Bool
  is_row_after top None = true
  is_row_after top (Some s) = has_row_by s top

  -- a step by the action leads to a state with such a row
  abbrev pub is_step_kept : State → ℕ → ActId → Bool
  is_step_kept s room act = not (is_act_allowed machine ask.outs act) || is_row_after (room + least_of machine act) (step_by machine ask.want act s)

  abbrev pub are_steps_kept : State → ℕ → ℕ → Bool
  are_steps_kept s room zero = true
  are_steps_kept s room (suc n) = are_steps_kept s room n && is_step_kept s room (record { 0 = n })

  abbrev pub is_row_of : List TreeRow → ℕ → Option State → Bool
  is_row_of earlier room None = false
  is_row_of earlier room (Some s) = not (list_any (λ q. is_state s (state_of machine q.state)) earlier) && are_steps_kept s room (length machine.actions)

  -- the row is of a location's state that no earlier row has, and the steps from it are kept
  abbrev pub is_good_row : List TreeRow → TreeRow → Bool
  is_good_row earlier r = is_row_of earlier r.room (state_of machine r.state)

  -- each start state has a row with 0
  abbrev pub are_starts_kept : Origin → Bool
  are_starts_kept FromFeeder = list_all (λ f. not (bytes_eq f.media ask.want.media && not (has ask.empty f.loc)) || has_row_by (fresh f.loc) 0) machine.feeders
  are_starts_kept (FromFront state end count) = has_row_by state 0

  -- the number of the first row that isn't good; that of the rows where a start state has none
  abbrev pub bad_row_from : ℕ → List TreeRow → List TreeRow → Option ℕ
  bad_row_from k earlier [] = if are_starts_kept ask.origin then None else Some k
  bad_row_from k earlier (r ∷ more) = if is_good_row earlier r then bad_row_from (suc k) (earlier ++ r ∷ []) more else Some k

  abbrev pub bad_row : Option ℕ
  bad_row = bad_row_from 0 [] rows

-- ---- nodes

abbrev pub flaw_at : ℕ → Wrong → TreeFlaw
flaw_at k uncovered = Uncovered k
flaw_at k (no_such_hop hop) = NoSuchHop k hop
flaw_at k (weak reach top) = Weak k reach top
flaw_at k not_dead = NotDead k

-- what is due next, or the flaw of this node
abbrev pub flaw_or : ℕ → (List Due → Option TreeFlaw) → Look → Option TreeFlaw
flaw_or k next (due more) = next more
flaw_or k next (wrong flaw) = Some (flaw_at k flaw)

abbrev pub row_flaw_or : Option TreeFlaw → Option ℕ → Option TreeFlaw
row_flaw_or nodes None = nodes
row_flaw_or nodes (Some k) = Some (RoomRow k)

module _ (machine : Machine) (plans : List Plan) (ask : Ask) (rows : List TreeRow) (limit : ℤ) where
  -- the first flaw of the nodes, the first of which has this number
  abbrev pub bad_node_from : ℕ → List Due → List Node → Option TreeFlaw
  bad_node_from k [] [] = None
  bad_node_from k [] (n ∷ nodes) = Some (Uncovered k)
  bad_node_from k (d ∷ ds) [] = Some (Uncovered k)
  bad_node_from k (d ∷ ds) (n ∷ nodes) = flaw_or k (λ more. bad_node_from (suc k) (more ++ ds) nodes) (look machine plans ask rows limit d n)

-- the first flaw of a tree, rows before nodes
abbrev pub tree_flaw : Machine → List Plan → Ask → ℤ → BoundTree → Option TreeFlaw
tree_flaw machine plans ask limit tree =
    row_flaw_or (bad_node_from machine plans ask tree.rows limit 0 (goals_due machine plans ask tree.rows limit) tree.nodes) (bad_row machine ask tree.rows)

-- the bound trees are those without a flaw
abbrev pub FlawlessIsBound : Type 0
FlawlessIsBound = (machine : Machine) (plans : List Plan) (ask : Ask) (limit : ℤ) (tree : BoundTree) → IsBoundTree machine plans ask limit tree ↔ (tree_flaw machine plans ask limit tree ≡ None)

-- what a check answers for a flaw that is not memory's
abbrev pub IsFlawOf : Option TreeFlaw → TreeFlaw → Type 0
IsFlawOf o Memory = Unit {0}
IsFlawOf o flaw = o ≡ Some flaw
