use Rattle.std.proofs.Common.{[], arith, refl, sym, subst}
use Rattle.tp_bounds.specs.declared.tree.Close.TheVariants.{Split}
use Rattle.std.specs.Prelude.{pos}
use Rattle.tp_placing.specs.Boards.{suffix_of}
use Rattle.tp_schedule.specs.Plans.{AreNamed}
use Rattle.tp_constraints.specs.Ends.{HasEndBy}
use Rattle.tp_bound_make.specs.TreeProgress.{PutsNode, branch_by, kids_of}
use Rattle.tp_bound_make.proofs.AddFacts.{puts}
use Rattle.tp_bound_make.proofs.CarryFacts.{end-refused, newest-act, newest-hold, own-suffix, split-closes}
use Rattle.tp_bound_make.proofs.EarlyFacts.{begun-ends, least-by}
use Rattle.tp_bound_make.proofs.tree_nodes.put_carried.Goals as goal
use Rattle.tp_bound_make.proofs.tree_nodes.put_carried.Goals.{After-is_complete}

pub refuse_end-requires-clause-below : goal.refuse_end-requires-clause-below
refuse_end-requires-clause-below g c =
    let machine = c.args.scene.machine.now in
    let stands = c.requires.set.stands in
    (machine, c.end_bound.result, stands, c.end_bound.ensures machine stands, c.if-end_bound-scene.true)

pub put_end-requires-clause-named : goal.put_end-requires-clause-named
put_end-requires-clause-named g c = subst AreNamed (sym c.refuse_end.ensures.loaded.plans) c.requires.named

pub put_end-requires-clause-refused : goal.put_end-requires-clause-refused
put_end-requires-clause-refused g c =
    let x = c.requires.carries.0 in
    let e = c.refuse_end.ensures in (
      x,
      end-refused g.N.Network.reading g.N.Network.refutes c.args.scene.machine.now c.args.scene.ask.now c.args.board.now c.refuse_end.new.self c.args.child x c.args.scene.limit c.requires.carries.1 e.same
          (e.shown c.args.scene.machine.now c.requires.set.stands),
    )

pub is_complete-requires : goal.is_complete-requires
is_complete-requires g c = newest-act c.args.scene.machine.now c.args.child.newest c.args.child.places c.requires.carries.0.choices c.requires.carries.1.newest

pub returns-in-Ok-clause-put : goal.returns-in-Ok-clause-put
returns-in-Ok-clause-put g c = λ x carries.
    let e = c.refuse_end.ensures in
    subst (λ ps. PutsNode c.args.scene.machine.now ps c.args.scene.ask.now c.args.scene.limit c.args.nodes.now c.put_end.new.nodes (branch_by c.args.child x) c.args.head (λ _. [])) e.loaded.plans
    (c.in-Ok.ensures (branch_by c.args.child x) refl
    (end-refused g.N.Network.reading g.N.Network.refutes c.args.scene.machine.now c.args.scene.ask.now c.args.board.now c.refuse_end.new.self c.args.child x c.args.scene.limit carries e.same
    (e.shown c.args.scene.machine.now c.requires.set.stands)))

pub returns-in-Ok-put_node-clause-put : goal.returns-in-Ok-put_node-clause-put
returns-in-Ok-put_node-clause-put g c = λ x carries. (
  refl,
  puts c.args.scene.machine.now c.args.board.now.plans c.args.scene.ask.now c.args.scene.limit c.args.child.depth c.args.nodes.now c.put_node.new.nodes (branch_by c.args.child x) c.args.head Split
      (λ rows. kids_of c.args.scene.machine.now c.args.board.now.plans c.args.scene.ask.now rows (branch_by c.args.child x)) c.in-Ok-put_node.ensures refl (omega arith) tt
      (λ rows. split-closes c.args.scene.machine.now c.args.board.now.plans c.args.scene.ask.now rows (pos c.args.scene.limit) c.args.child x c.args.head carries.going
      (newest-hold c.args.scene.machine.now c.args.child.newest c.args.child.places x.choices carries.newest) (c.is_complete.ensures.going c.if-is_complete.false)),
)

-- the branch ends by the limit
ends : (g : _) (c : After-is_complete g) → HasEndBy c.args.scene.machine.now c.args.board.now.plans c.args.scene.ask.now c.requires.carries.0 c.args.scene.limit
ends g c =
    let set = c.requires.set in
    least-by g.N.Network.reading c.args.scene.machine.now c.args.scene.ask.now c.args.board.now c.requires.carries.0 c.end_bound.result c.args.scene.limit set.asked c.requires.carries.1.carried
    (c.end_bound.ensures c.args.scene.machine.now set.stands) c.if-end_bound-scene.false

pub returns-then-is_complete-clause-early : goal.returns-then-is_complete-clause-early
returns-then-is_complete-clause-early g c =
    let at = (goal.at.returns-then-is_complete-clause-early g c).After-is_complete in
    let done = c.is_complete.ensures in
    begun-ends g.N.Network.reading c.args.scene.machine.now c.args.scene.ask.now c.args.board.now c.requires.set c.args.child c.requires.carries.0 c.requires.carries.1 (done.placed c.if-is_complete.true)
    c.args.scene.limit (done.begun c.if-is_complete.true) (ends g at)

pub returns-in-Ok-put_node-clause-split_early : goal.returns-in-Ok-put_node-clause-split_early
returns-in-Ok-put_node-clause-split_early g c =
    own-suffix (suffix_of c.args.board.now) c.requires.carries.0 c.requires.carries.1.carried (λ x. HasEndBy c.args.scene.machine.now c.args.board.now.plans c.args.scene.ask.now x c.args.scene.limit)
    (ends g (goal.at.returns-in-Ok-put_node-clause-split_early g c).After-is_complete)
