-- Chains and loops that pass no point twice, but for a loop's return to its first point.
use Rattle.std.specs.Prelude.{◌≡◌, ◌≢◌, List, [], ◌∷◌, ◌++◌, length, AllPairs, Option, Some, None, ℤ}
use Rattle.tp_bounds.specs.declared.hops.Hop.{Hop}
use Rattle.tp_bounds.specs.declared.tree.BoundTree.{BoundTree}
use Rattle.tp_bounds.specs.declared.tree.Close.{Close}
use Rattle.tp_bounds.specs.declared.tree.Close.TheVariants.{Split, Dead, Chain, Loop}
use Rattle.tp_bounds.specs.declared.tree.Node.{Node}
use Rattle.tp_bounds.specs.declared.tree.TreeRow.{TreeRow}
use Rattle.tp_machine.specs.declared.machine.Machine.{Machine}
use Rattle.tp_schedule.specs.Spots.{Spot}
use Rattle.tp_schedule.specs.declared.parts.Ask.{Ask}
use Rattle.tp_schedule.specs.declared.parts.Plan.{Plan}
use Rattle.tp_constraints.specs.Gaps.{Gap}
use Rattle.tp_bound_laws.specs.Chains.{gap_of, spot_of}
use Rattle.tp_bound_laws.specs.Places.{Due, Stand, stand_of}
use Rattle.tp_bound_laws.specs.Trees.{goals_due, look}
use Rattle.tp_bound_laws.specs.Trees.Look.{due}

abbrev pub AreDifferent : List Spot → Type 0
AreDifferent spots = AllPairs (λ p q. p ≢ q) spots

module _ (machine : Machine) (plans : List Plan) (ask : Ask) (limit : ℤ) (s : Stand) where
  -- the points to which hops lead, one after another, up to the first hop that isn't allowed
  abbrev pub passed_on : (Gap → List Spot) → Option Gap → List Spot
  passed_on next None = []
  passed_on next (Some g) = g.to ∷ next g

  abbrev pub passed : Spot → List Hop → List Spot
  passed from [] = []
  passed from (h ∷ hops) = passed_on (λ g. passed g.to hops) (gap_of machine plans ask limit s from h)

  abbrev pub chain_once : Option Spot → List Hop → Type 0
  chain_once None hops = Unit {0}
  chain_once (Some from) hops = AreDifferent (from ∷ passed from hops)

  abbrev pub loop_once : Option Spot → List Hop → Type 0
  loop_once None hops = Unit {0}
  loop_once (Some from) hops = AreDifferent (passed from hops)

  -- the hops of a node that stands here pass no point twice
  abbrev pub PassesOnce : Close → Type 0
  PassesOnce Split = Unit {0}
  PassesOnce Dead = Unit {0}
  PassesOnce (Chain first hops) = chain_once (spot_of plans (length s.branch.x.choices) first) hops
  PassesOnce (Loop first hops) = loop_once (spot_of plans (length s.branch.x.choices) first) hops

module _ (machine : Machine) (plans : List Plan) (ask : Ask) (rows : List TreeRow) (limit : ℤ) where
  -- so it is with each of the nodes, where it stands
  abbrev pub PassOnce : List Due → List Node → Type 0
  PassOnce [] [] = Unit {0}
  PassOnce [] (n ∷ nodes) = Unit {0}
  PassOnce (d ∷ ds) [] = Unit {0}
  PassOnce (d ∷ ds) (n ∷ nodes) =
      ((s : Stand) → stand_of machine plans ask rows d n.head ≡ Some s → PassesOnce machine plans ask limit s n.close)
      × ((more : List Due) → look machine plans ask rows limit d n ≡ due more → PassOnce (more ++ ds) nodes)

-- no chain and no loop of the tree passes a point twice, but for a loop's return
abbrev pub IsSimple : Machine → List Plan → Ask → ℤ → BoundTree → Type 0
IsSimple machine plans ask limit tree = PassOnce machine plans ask tree.rows limit (goals_due machine plans ask tree.rows limit) tree.nodes
