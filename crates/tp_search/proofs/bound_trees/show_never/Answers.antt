use Rattle.std.proofs.Common.{◌+◌, subst, arith}
use Rattle.tp_bound_make.specs.TreeProgress.{IsEarlyEnd}
use Rattle.tp_bound_make.specs.declared.scene.NotShown.TheVariants.{Early}
use Rattle.tp_search.proofs.ShowFacts.{loaded-none, never-early, ready-on, tree-never}
use Rattle.tp_search.proofs.bound_trees.show_never.Goals as goal

pub overflow_add-horizon : goal.overflow_add-horizon
overflow_add-horizon g c =
    let on = ready-on g.N.Network.reading c.args.board.now c.args.machine.now c.args.ask.now c.requires.ready in
    let small = on.small_horizon in
    let is = on.horizon in
    omega (arith, small, is)

pub show-requires-clause-loaded : goal.show-requires-clause-loaded
show-requires-clause-loaded g c = (c.requires.loaded.0, c.requires.loaded.1.0)

pub unreachable-requires : goal.unreachable-requires
unreachable-requires g c =
    let on = ready-on g.N.Network.reading c.args.board.now c.args.machine.now c.args.ask.now c.requires.ready in
    let machine = c.args.machine.now in
    let plans = c.args.board.now.plans in
    let ask = c.args.ask.now in
    let horizon = ask.now + machine.window in
    let early : IsEarlyEnd machine plans ask horizon Early = subst (IsEarlyEnd machine plans ask horizon) c.in-Err-Early.field-0-is c.in-Err-Early.ensures.early in
    never-early machine plans ask horizon (loaded-none machine c.requires.loaded.0 ask plans c.requires.loaded.1.0 on.origin c.requires.loaded.1.1) early

pub returns-in-Ok-clause-tree : goal.returns-in-Ok-clause-tree
returns-in-Ok-clause-tree g c plans loaded = tree-never c.args.machine.now plans c.args.ask.now c.args.board.now.plans loaded c.in-Ok.tree c.in-Ok.ensures.tree c.in-Ok.ensures.short c.in-Ok.ensures.simple
