-- Trees of worked rows on DUO: two sheets one behind the other, and a tray that can't be reached.
use Rattle.std.proofs.Common.{◌≡◌, true, false, List, [], ◌∷◌, ◌++◌, Some, None, refl, codes, pos}
use Rattle.tp_bounds.specs.declared.hops.Hop.{Hop}
use Rattle.tp_bounds.specs.declared.hops.Hop.TheVariants.{Line, «Resource» as Res}
use Rattle.tp_bounds.specs.declared.hops.TreeHold.TheVariants.{Own as OwnHold, Kept as KeptHold}
use Rattle.tp_bounds.specs.declared.hops.TreePoint.TheVariants.{Own as OwnPoint, Kept as KeptPoint}
use Rattle.tp_bounds.specs.declared.tree.BoundTree.{BoundTree}
use Rattle.tp_bounds.specs.declared.tree.Close.TheVariants.{Split, Dead, Chain, Loop}
use Rattle.tp_bounds.specs.declared.tree.Head.TheVariants.{Act as ActHead, At as AtHead}
use Rattle.tp_bounds.specs.declared.tree.Node.{Node}
use Rattle.tp_bounds.specs.declared.tree.TreeRow.{TreeRow}
use Rattle.tp_machine.specs.Modes.{gap_between, mode_of}
use Rattle.tp_bound_laws.specs.declared.claim.Claim.TheVariants.{Earliest, Never}
use Rattle.tp_bound_laws.specs.declared.claim.TreeFlaw.TheVariants.{NoSuchHop, RoomRow, Uncovered, Weak}
use Rattle.rows_trees.proofs.Duo.{asks, first, first_plan, first_point, five_rows, flaw_for, flaw_in, goal_node, narrow, node, own, row}

-- ---- the first sheet
abbrev first_tree : BoundTree
first_tree = record { rows = five_rows; nodes = goal_node (Chain (OwnPoint 0) []) ∷ [] }

first_is_bound : flaw_for [] (asks 1 0) (Earliest 14) first_tree ≡ None
first_is_bound = refl

-- it shows as well that no sheet ends within 13 ticks
none_is_bound : flaw_in narrow [] (asks 1 0) Never first_tree ≡ None
none_is_bound = refl

-- one tick more is too much
first_is_weak : flaw_for [] (asks 1 0) (Earliest 15) first_tree ≡ Some (Weak 0 (pos 14) (pos 14))
first_is_weak = refl

-- ---- the second one
abbrev above : List Node
above =
    goal_node Split
    ∷ node 1 (ActHead (codes "out")) Split
    ∷ node 2 (AtHead (codes "rt") 0 0) (Loop (OwnPoint 0) (Res (codes "rt") (OwnHold 1) (KeptHold first 3) ∷ Line (OwnPoint 0) ∷ []))
    ∷ node 2 (AtHead (codes "rt") 1 1) Split
    ∷ []

abbrev below : List Node
below =
    node 3 (ActHead (codes "print2")) Split
    ∷ node 4 (AtHead (codes "r2") 0 0) (Chain (OwnPoint 2) (own 1 ∷ Res (codes "r2") (OwnHold 2) (KeptHold first 2) ∷ first_point 2 ∷ first_point 3 ∷ Line (OwnPoint 0) ∷ []))
    ∷ node 4 (AtHead (codes "r2") 1 1) (Chain (KeptPoint first 0) (first_point 1 ∷ first_point 2 ∷ Res (codes "r2") (KeptHold first 2) (OwnHold 2) ∷ own 1 ∷ own 0 ∷ []))
    ∷ []

abbrev print1_node : List Hop → Node
print1_node hops = node 3 (ActHead (codes "print1")) (Chain (OwnPoint 2) hops)

abbrev second_tree : List Node → BoundTree
second_tree between = record { rows = five_rows; nodes = above ++ (between ++ below) }

second_is_bound : flaw_for (first_plan ∷ []) (asks 2 0) (Earliest 17) (second_tree (print1_node (own 1 ∷ own 0 ∷ []) ∷ [])) ≡ None
unfolding gap_between mode_of
second_is_bound = refl

second_is_weak : flaw_for (first_plan ∷ []) (asks 2 0) (Earliest 18) (second_tree (print1_node (own 1 ∷ own 0 ∷ []) ∷ [])) ≡ Some (Weak 4 (pos 17) (pos 17))
unfolding gap_between mode_of
second_is_weak = refl

-- a chain that ends before the sheet does
short_is_weak : flaw_for (first_plan ∷ []) (asks 2 0) (Earliest 17) (second_tree (print1_node (own 1 ∷ []) ∷ [])) ≡ Some (Weak 4 (pos 14) (pos 200))
unfolding gap_between mode_of
short_is_weak = refl

-- an action is left out
left_out_is_uncovered : flaw_for (first_plan ∷ []) (asks 2 0) (Earliest 17) (second_tree []) ≡ Some (Uncovered 4)
unfolding gap_between mode_of
left_out_is_uncovered = refl

-- ---- no way to the tray, the module of `out` being out
abbrev dead_tree : BoundTree
dead_tree = record { rows = row (codes "f") false 0 ∷ row (codes "a") false 2 ∷ row (codes "b") true 8 ∷ row (codes "p") true 11 ∷ []; nodes = goal_node Dead ∷ [] }

dead_is_bound : flaw_for [] (asks 1 8) Never dead_tree ≡ None
dead_is_bound = refl

-- a hold in a range is no neighbour
abbrev range_tree : BoundTree
range_tree = record {
  rows = five_rows;
  nodes = above ++ (print1_node (own 1 ∷ own 0 ∷ []) ∷ node 3 (ActHead (codes "print2")) Split
      ∷ node 4 (AtHead (codes "r2") 0 1) (Chain (OwnPoint 2) (own 1 ∷ Res (codes "r2") (OwnHold 2) (KeptHold first 2) ∷ first_point 2 ∷ [])) ∷ []);
}

hold_in_a_range : flaw_for (first_plan ∷ []) (asks 2 0) (Earliest 17) range_tree ≡ Some (NoSuchHop 6 1)
unfolding gap_between mode_of
hold_in_a_range = refl

-- a step leads to no row, and a start state has none
abbrev rows_alone : List TreeRow → BoundTree
rows_alone rows = record { rows = rows; nodes = [] }

step_without_a_row : flaw_for [] (asks 1 0) (Earliest 14) (rows_alone (row (codes "f") false 0 ∷ row (codes "a") false 2 ∷ row (codes "b") true 9 ∷ [])) ≡ Some (RoomRow 1)
step_without_a_row = refl

start_without_a_row : flaw_for [] (asks 1 0) (Earliest 14) (rows_alone (row (codes "t") true 11 ∷ [])) ≡ Some (RoomRow 1)
start_without_a_row = refl
