-- Trees of a copy in flight on DUO, its feed running: to its tray, and to a purge tray.
use Rattle.std.proofs.Common.{◌≡◌, Bool, true, false, List, [], ◌∷◌, None, refl, codes}
use Rattle.tp_bounds.specs.declared.hops.TreePoint.TheVariants.{Own as OwnPoint}
use Rattle.tp_bounds.specs.declared.tree.BoundTree.{BoundTree}
use Rattle.tp_bounds.specs.declared.tree.Close.{Close}
use Rattle.tp_bounds.specs.declared.tree.Close.TheVariants.{Split, Dead, Chain}
use Rattle.tp_bounds.specs.declared.tree.Head.TheVariants.{Goal as GoalHead, Act as ActHead, At as AtHead, Stop as StopHead}
use Rattle.tp_bounds.specs.declared.tree.Node.{Node}
use Rattle.tp_bounds.specs.declared.tree.TreeRow.{TreeRow}
use Rattle.tp_machine.specs.declared.parts.Face.{Face}
use Rattle.tp_machine.specs.declared.parts.Face.TheVariants.{Front as FrontUp, Back as BackUp}
use Rattle.tp_schedule.specs.declared.parts.Ask.{Ask}
use Rattle.tp_schedule.specs.declared.parts.Goal.{Goal}
use Rattle.tp_schedule.specs.declared.parts.Goal.TheVariants.{Tray, Purge}
use Rattle.tp_schedule.specs.declared.parts.Kind.TheVariants.{Front}
use Rattle.tp_schedule.specs.declared.parts.Origin.TheVariants.{Front as FromFront}
use Rattle.tp_schedule.specs.declared.parts.Plan.{Plan}
use Rattle.tp_bound_laws.specs.declared.claim.Claim.TheVariants.{Earliest}
use Rattle.rows_trees.proofs.Duo.{act, asks, first_plan, flaw_for, goal_node, loc, node, own, row}

abbrev front : Plan
front = record first_plan { kind = Front; acts = act 0 ∷ []; points = 3 ∷ 5 ∷ []; released = 1 }

abbrev asks_on : Goal → Ask
asks_on goal = record (asks 1 0) {
  goal = goal;
  origin = FromFront (record { loc = loc 1; up = FrontUp; front_done = false; back_done = false }) 5 1;
  now = 4;
}

abbrev four_rows : List TreeRow
four_rows = row (codes "a") false 0 ∷ row (codes "b") true 6 ∷ row (codes "t") true 9 ∷ row (codes "p") true 9 ∷ []

-- the way may stop at the front's end, or go on to a state that can't be reached any more
abbrev stopped_tree : BoundTree
stopped_tree = record {
  rows = four_rows;
  nodes =
      goal_node Split
      ∷ node 1 (ActHead (codes "out")) Split
      ∷ node 2 (AtHead (codes "rt") 0 0) Split
      ∷ node 3 (ActHead (codes "print1")) (Chain (OwnPoint 2) (own 1 ∷ own 0 ∷ []))
      ∷ node 3 (ActHead (codes "print2")) Split
      ∷ node 4 (AtHead (codes "r2") 0 0) Split
      ∷ node 5 StopHead (Chain (OwnPoint 2) (own 1 ∷ own 0 ∷ []))
      ∷ node 5 (ActHead (codes "feed")) Dead
      ∷ [];
}

stopped_is_bound : flaw_for (front ∷ []) (asks_on (Tray (loc 3))) (Earliest 14) stopped_tree ≡ None
stopped_is_bound = refl

-- each state at the purge tray whose done sides are wanted is a goal
abbrev purge_node : Face → Bool → Close → Node
purge_node up front_done close = node 0 (GoalHead (record { place = codes "p"; up = up; front_done = front_done; back_done = false })) close

abbrev purge_tree : BoundTree
purge_tree = record {
  rows = four_rows;
  nodes = purge_node FrontUp false Dead ∷ purge_node FrontUp true (Chain (OwnPoint 0) []) ∷ purge_node BackUp false Dead ∷ purge_node BackUp true Dead ∷ [];
}

purge_is_bound : flaw_for (front ∷ []) (asks_on Purge) (Earliest 14) purge_tree ≡ None
purge_is_bound = refl
