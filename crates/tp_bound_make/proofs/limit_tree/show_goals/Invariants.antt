use Rattle.std.proofs.Common.{List, drop}
use Rattle.std.specs.Prelude.{map}
use Rattle.tp_bounds.specs.declared.tree.TreeRow.{TreeRow}
use Rattle.tp_bound_laws.specs.Places.Due.{goal as goal_due}
use Rattle.tp_bound_make.specs.TreeProgress.{IsBack, Shows}
use Rattle.tp_bound_make.proofs.limit_tree.show_goals.Given as goal

-- the goals so far have their nodes, and the board is back
abbrev pub invariant-states : goal.invariant-states
invariant-states g l = record {
  shown : Shows l.scene.machine.now l.fn.board.plans l.scene.ask.now l.scene.rooms.now.sums l.scene.limit l.fn.nodes l.nodes (λ (rows : List TreeRow). map (λ s. goal_due s) l.states) (λ rows. map (λ s. goal_due s) (drop l.at l.states));
  back : IsBack g.N.Network.reading l.fn.board l.board l.scene.machine.now;
}
