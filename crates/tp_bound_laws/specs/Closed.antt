-- Bound trees read as trees: at each place that is due stands a node, which is closed, or split with exactly the children that are listed there.
use Rattle.std.specs.Prelude.{◌≡◌, ◌↔◌, true, List, [], ◌∷◌, ◌++◌, length, ℤ, pos, ◌<ℤ◌, Some, None}
use Rattle.tp_bounds.specs.declared.hops.Hop.{Hop}
use Rattle.tp_bounds.specs.declared.hops.TreePoint.{TreePoint}
use Rattle.tp_bounds.specs.declared.tree.Close.{Close}
use Rattle.tp_bounds.specs.declared.tree.Close.TheVariants.{Split, Dead, Chain, Loop}
use Rattle.tp_bounds.specs.declared.tree.Head.{Head}
use Rattle.tp_bounds.specs.declared.tree.Node.{Node}
use Rattle.tp_bounds.specs.declared.tree.TreeRow.{TreeRow}
use Rattle.tp_machine.specs.declared.machine.Machine.{Machine}
use Rattle.tp_schedule.specs.Spots.{Spot}
use Rattle.tp_schedule.specs.declared.parts.Ask.{Ask}
use Rattle.tp_schedule.specs.declared.parts.Plan.{Plan}
use Rattle.tp_constraints.specs.Numbers.{is_same_spot}
use Rattle.tp_bound_laws.specs.Chains.{cap, follow, low, spot_of}
use Rattle.tp_bound_laws.specs.Chains.Led.{led}
use Rattle.tp_bound_laws.specs.Places.{Due, Stand, children, due_behind, stand_of}
use Rattle.tp_bound_laws.specs.Rows.{row_of}
use Rattle.tp_bound_laws.specs.Trees.{Covers, may_be_dead}

module _ (machine : Machine) (plans : List Plan) (ask : Ask) (rows : List TreeRow) (limit : ℤ) where
  -- the node is the one that is due, and stands here
  pub record IsAt (d : Due) (n : Node) (s : Stand) : Type 0 where
    pub stand : stand_of machine plans ask rows d n.head ≡ Some s
    pub depth : n.depth ≡ s.branch.depth

  -- dead: a goal or an action whose state has no row
  pub record IsDead (s : Stand) (head : Head) : Type 0 where
    pub may_be : may_be_dead head ≡ true
    pub row : row_of machine rows s.branch.first ≡ None

  -- a chain: allowed hops lead from a point at its least tick to one that they reach later than it may stand
  pub record IsChain (s : Stand) (first : TreePoint) (hops : List Hop) : Type 0 where
    pub from : Spot
    pub to : Spot
    pub sum : ℤ
    pub begins : spot_of plans (length s.branch.x.choices) first ≡ Some from
    pub leads : follow machine plans ask limit s 0 from (pos (low machine plans ask limit s from)) hops ≡ led to sum
    pub late : cap machine plans ask limit s to <ℤ sum

  -- a loop: allowed hops lead from a point back to it, and take time
  pub record IsLoop (s : Stand) (first : TreePoint) (hops : List Hop) : Type 0 where
    pub from : Spot
    pub to : Spot
    pub sum : ℤ
    pub begins : spot_of plans (length s.branch.x.choices) first ≡ Some from
    pub leads : follow machine plans ask limit s 0 from (pos 0) hops ≡ led to sum
    pub back : is_same_spot to from ≡ true
    pub long : pos 0 <ℤ sum

  -- the node that stands here is closed: nothing stands below it
  abbrev pub IsClosed : Stand → Head → Close → Type 0
  IsClosed s head Split = ⊥
  IsClosed s head Dead = IsDead s head
  IsClosed s head (Chain first hops) = IsChain s first hops
  IsClosed s head (Loop first hops) = IsLoop s first hops

  -- the nodes are those of the trees at the places that are due. The first node stands at the first of them. If it is split, the trees of exactly
  -- its children stand below it. Then come the trees at the places that are due behind it: the rest of its hold's places, and the others.
  pub data AreTrees : List Due → List Node → Type 0 where
    none : AreTrees [] []
    closed : (d : Due) (n : Node) (s : Stand) (ds : List Due) (nodes : List Node) → IsAt d n s → IsClosed s n.head n.close
        → AreTrees (due_behind machine plans ask rows d n.head ++ ds) nodes → AreTrees (d ∷ ds) (n ∷ nodes)
    split : (d : Due) (n : Node) (s : Stand) (ds kids : List Due) (below behind : List Node) → IsAt d n s → n.close ≡ Split → children machine plans ask rows s ≡ Some kids
        → AreTrees kids below → AreTrees (due_behind machine plans ask rows d n.head ++ ds) behind → AreTrees (d ∷ ds) (n ∷ below ++ behind)

-- the nodes that a check takes one by one for what is due are those of the trees there
abbrev pub TreesAreCovers : Type 0
TreesAreCovers = (machine : Machine) (plans : List Plan) (ask : Ask) (rows : List TreeRow) (limit : ℤ) (ds : List Due) (nodes : List Node)
    → AreTrees machine plans ask rows limit ds nodes ↔ Covers machine plans ask rows limit ds nodes
