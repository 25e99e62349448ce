use Rattle.std.proofs.Common.{◌≡◌, ◌-◌, ◌≤◌, List, Some}
use Rattle.tp_bounds.specs.declared.tree.TreeRow.{TreeRow}
use Rattle.tp_constraints.specs.Suffixes.{Suffix}
use Rattle.tp_placing.specs.Boards.{suffix_of}
use Rattle.tp_bound_make.specs.TreeProgress.{IsBack, Shows, below, branch_by, hold_of, kids_of, left_of}
use Rattle.tp_bound_make.proofs.branch_walk.+show_below.Given as goal

-- how much may still come below
abbrev pub decreases-show_below : goal.decreases-show_below
decreases-show_below g l = below l.branch

-- the ways so far are gone, and the board is back
abbrev pub invariant-ways : goal.invariant-ways
invariant-ways g l = record {
  shown : (x : Suffix) → suffix_of l.fn.board ≡ Some x → Shows l.scene.machine.now l.fn.board.plans l.scene.ask.now l.scene.rooms.now.sums l.scene.limit l.fn.nodes l.nodes
      (λ (rows : List TreeRow). kids_of l.scene.machine.now l.fn.board.plans l.scene.ask.now rows (branch_by l.branch x))
      (λ rows. left_of l.scene.machine.now l.fn.board.plans l.scene.ask.now rows (branch_by l.branch x) (hold_of l.scene.machine.now l.branch) l.way);
  back : IsBack g.N.Network.reading l.fn.board l.board l.scene.machine.now;
  within : l.way ≤ l.count;
}

-- how many ways are left
abbrev pub decreases-ways : goal.decreases-ways
decreases-ways g l = l.count - l.way
