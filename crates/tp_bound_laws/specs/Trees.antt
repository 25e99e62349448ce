-- Bound trees: the nodes that are due stand in their places, each closed or split.
use Rattle.std.specs.Prelude.{◌≡◌, ℕ, ◌-◌, Bool, true, false, ◌==◌, int_lt, List, [], ◌∷◌, ◌++◌, length, map, Option, Some, None, ℤ, pos, if◌then◌else◌}
use Rattle.tp_bounds.specs.declared.hops.Hop.{Hop}
use Rattle.tp_bounds.specs.declared.tree.BoundTree.{BoundTree}
use Rattle.tp_bounds.specs.declared.tree.Close.{Close}
use Rattle.tp_bounds.specs.declared.tree.Close.TheVariants.{Split, Dead, Chain, Loop}
use Rattle.tp_bounds.specs.declared.tree.Head.{Head}
use Rattle.tp_bounds.specs.declared.tree.Head.TheVariants.{Goal as GoalHead, Act as ActHead, At as AtHead, Stop as StopHead}
use Rattle.tp_bounds.specs.declared.tree.Node.{Node}
use Rattle.tp_bounds.specs.declared.tree.TreeRow.{TreeRow}
use Rattle.tp_machine.specs.declared.machine.Machine.{Machine}
use Rattle.tp_schedule.specs.Spots.{Spot}
use Rattle.tp_schedule.specs.declared.parts.Ask.{Ask}
use Rattle.tp_schedule.specs.declared.parts.Plan.{Plan}
use Rattle.tp_constraints.specs.Numbers.{is_same_spot}
use Rattle.tp_bound_laws.specs.Chains.{spot_of, follow, Led, low, cap}
use Rattle.tp_bound_laws.specs.Chains.Led.{lost, led}
use Rattle.tp_bound_laws.specs.Places.{Due, Stand, stand_of, due_behind, children, goal_states}
use Rattle.tp_bound_laws.specs.Places.Due.{goal}
use Rattle.tp_bound_laws.specs.Rows.{row_of, AreRoomRows}

-- what is wrong with a node: it isn't the one that is due or may not be split, its hop of this number isn't allowed, it
-- reaches no further than its cap, or its state has a row
pub data Wrong : Type 0 where
  uncovered : Wrong
  no_such_hop : ℕ → Wrong
  weak : ℤ → ℤ → Wrong
  not_dead : Wrong

-- looking at a node gives what is due below it, or what is wrong
pub data Look : Type 0 where
  due : List Due → Look
  wrong : Wrong → Look

abbrev pub split_look : Option (List Due) → Look
split_look None = wrong uncovered
split_look (Some more) = due more

-- a state without a row can't be reached
abbrev pub may_be_dead : Head → Bool
may_be_dead (GoalHead named) = true
may_be_dead (ActHead name) = true
may_be_dead (AtHead name lo hi) = false
may_be_dead StopHead = false

abbrev pub dead_look : Bool → Option ℕ → Look
dead_look true None = due []
dead_look true (Some room) = wrong not_dead
dead_look false row = wrong not_dead

-- a sum above its cap closes a node
abbrev pub reach_look : ℤ → ℤ → Look
reach_look reach top = if int_lt top reach then due [] else wrong (weak reach top)

module _ (machine : Machine) (plans : List Plan) (ask : Ask) (rows : List TreeRow) (limit : ℤ) where
  -- a chain comes too late at its last point
  abbrev pub chain_end : Stand → ℤ → Led → Look
  chain_end s start (lost k) = wrong (no_such_hop k)
  chain_end s start (led to sum) = reach_look sum (cap machine plans ask limit s to)

  abbrev pub chain_look : Stand → Option Spot → List Hop → Look
  chain_look s None hops = wrong (no_such_hop 0)
  chain_look s (Some from) hops = chain_end s (pos (low machine plans ask limit s from)) (follow machine plans ask limit s 0 from (pos (low machine plans ask limit s from)) hops)

  -- a loop takes more time than none
  abbrev pub loop_end : Spot → ℕ → Led → Look
  loop_end from last (lost k) = wrong (no_such_hop k)
  loop_end from last (led to sum) = if is_same_spot to from then reach_look sum (pos 0) else wrong (no_such_hop last)

  abbrev pub loop_look : Stand → Option Spot → List Hop → Look
  loop_look s None hops = wrong (no_such_hop 0)
  loop_look s (Some from) hops = loop_end from (length hops - 1) (follow machine plans ask limit s 0 from (pos 0) hops)

  -- a node that stands here is split, or closed by its cause
  abbrev pub close_look : Stand → Head → Close → Look
  close_look s head Split = split_look (children machine plans ask rows s)
  close_look s head Dead = dead_look (may_be_dead head) (row_of machine rows s.branch.first)
  close_look s head (Chain first hops) = chain_look s (spot_of plans (length s.branch.x.choices) first) hops
  close_look s head (Loop first hops) = loop_look s (spot_of plans (length s.branch.x.choices) first) hops

  abbrev pub with_behind : List Due → Look → Look
  with_behind behind (wrong flaw) = wrong flaw
  with_behind behind (due more) = due (more ++ behind)

  abbrev pub stand_look : Due → Node → Option Stand → Look
  stand_look d n None = wrong uncovered
  stand_look d n (Some s) = if n.depth == s.branch.depth then with_behind (due_behind machine plans ask rows d n.head) (close_look s n.head n.close) else wrong uncovered

  -- what is due in place of the first due node, where this node stands there
  abbrev pub look : Due → Node → Look
  look d n = stand_look d n (stand_of machine plans ask rows d n.head)

  -- the nodes stand where nodes are due, the first of them first, and nothing else is due
  abbrev pub Covers : List Due → List Node → Type 0
  Covers [] [] = Unit {0}
  Covers [] (n ∷ nodes) = ⊥
  Covers (d ∷ ds) [] = ⊥
  Covers (d ∷ ds) (n ∷ nodes) = (more : List Due) × (look d n ≡ due more) × Covers (more ++ ds) nodes

  abbrev pub goals_due : List Due
  goals_due = map (λ s. goal s) (goal_states machine ask.want ask.goal)

-- room rows, and nodes that cover the goals
pub record IsBoundTree (machine : Machine) (plans : List Plan) (ask : Ask) (limit : ℤ) (tree : BoundTree) : Type 0 where
  pub rows : AreRoomRows machine ask tree.rows
  pub nodes : Covers machine plans ask tree.rows limit (goals_due machine plans ask tree.rows limit) tree.nodes
