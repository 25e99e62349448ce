use Rattle.std.proofs.Common.{◌≡◌, ◌+◌, ◌-◌, ◌≤◌, subst, arith}
use Rattle.std.proofs.lemmas.Int.{ints}
use Rattle.tp_bound_make.specs.TreeProgress.{IsEarlyEnd}
use Rattle.tp_bound_make.specs.declared.scene.NotShown.TheVariants.{Early}
use Rattle.tp_search.proofs.ShowFacts.{earlier-none, tree-earliest}
use Rattle.tp_search.proofs.bound_trees.show_earliest.Goals as goal

pub show-requires-clause-limit : goal.show-requires-clause-limit
show-requires-clause-limit g c =
    let some = c.requires.some in
    let within = c.requires.within in
    let by : (c.args.end - 1) ≤ c.args.ask.now.now + c.args.machine.now.window = omega (arith, some, within) in
    omega (arith, ints, by)

pub unreachable-requires : goal.unreachable-requires
unreachable-requires g c =
    let machine = c.args.machine.now in
    let plans = c.args.board.now.plans in
    let ask = c.args.ask.now in
    let some = c.requires.some in
    let one : c.args.end ≡ (c.args.end - 1) + 1 = omega (arith, some) in
    let early : IsEarlyEnd machine plans ask (c.args.end - 1) Early = subst (IsEarlyEnd machine plans ask (c.args.end - 1)) c.in-Err-Early.field-0-is c.in-Err-Early.ensures.early in
    earlier-none machine plans ask c.args.end (c.args.end - 1) one c.requires.none early

pub returns-in-Ok-clause-tree : goal.returns-in-Ok-clause-tree
returns-in-Ok-clause-tree g c plans loaded =
    let some = c.requires.some in
    let one : c.args.end ≡ (c.args.end - 1) + 1 = omega (arith, some) in
    tree-earliest c.args.machine.now plans c.args.ask.now c.args.board.now.plans loaded c.args.end (c.args.end - 1) c.in-Ok.tree one c.in-Ok.ensures.tree c.in-Ok.ensures.short c.in-Ok.ensures.simple
