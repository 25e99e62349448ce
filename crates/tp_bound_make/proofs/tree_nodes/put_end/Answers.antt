use Rattle.std.proofs.Common.{◌≡◌, ◌++◌, ◌∷◌, [], refl}
use Rattle.tp_bound_laws.specs.Places as places
use Rattle.tp_bound_make.specs.Closes.{IsEndRefused}
use Rattle.tp_bound_make.specs.TreeProgress.{PutsNode}
use Rattle.tp_bound_make.proofs.AddFacts.{puts}
use Rattle.tp_bound_make.proofs.ReasonFacts.{on-map}
use Rattle.tp_bound_make.proofs.tree_nodes.put_end.Goals as goal

pub returns-in-Ok : goal.returns-in-Ok
returns-in-Ok g c =
    let machine = c.args.scene.machine.now in
    let b0 = c.args.board.now in
    let ask = c.args.scene.ask.now in
    let limit = c.args.scene.limit in
    on-map (c.put_node.new.nodes ≡ c.args.nodes.now ++ record { depth = c.args.depth; head = c.args.head; close = c.in-Ok.close } ∷ []) ((b : places.Branch) → b.depth ≡ c.args.depth → IsEndRefused g.N.Network.refutes machine b0 b.x limit → PutsNode machine b0.plans ask limit c.args.nodes.now c.put_node.new.nodes b c.args.head (λ _. [])) c.put_node.result
    (λ put b depth refused. puts machine b0.plans ask limit c.args.depth c.args.nodes.now c.put_node.new.nodes b c.args.head c.in-Ok.close (λ _. []) put depth
    (c.in-Ok.ensures ask b.x c.requires.set.asked refused c.requires.limit).0 ((c.in-Ok.ensures ask b.x c.requires.set.asked refused c.requires.limit).2 b refl) (λ rows. (c.in-Ok.ensures ask b.x c.requires.set.asked refused c.requires.limit).1 rows b c.args.head refl))
    c.put_node.ensures
