use Rattle.std.proofs.Common.{◌<◌, [], length, refl, sym, subst, ◌∙◌, arith}
use Rattle.tp_bounds.specs.declared.tree.Head.TheVariants.{Stop as StopHead}
use Rattle.tp_constraints.specs.Suffixes.{Suffix}
use Rattle.tp_placing.specs.Boards.{suffix_of}
use Rattle.tp_schedule.specs.Plans.{AreNamed}
use Rattle.tp_bound_laws.specs.Places.{stop_due}
use Rattle.tp_bound_make.specs.TreeProgress.{PutsNode, Shows, branch_by}
use Rattle.tp_bound_make.proofs.CarryFacts.{own-suffix, stop-refused}
use Rattle.tp_bound_make.proofs.EarlyFacts.{stopped-ends}
use Rattle.tp_bound_make.proofs.EnterFacts.{stop-front, stop-shows, stop-some, stopped_below}
use Rattle.tp_bound_make.proofs.branch_steps.enter_stop.Goals as goal

pub put_stop-requires-clause-named : goal.put_stop-requires-clause-named
put_stop-requires-clause-named g c = subst AreNamed (sym c.stop.ensures.loaded.plans) c.requires.named

pub put_stop-requires-clause-refused : goal.put_stop-requires-clause-refused
put_stop-requires-clause-refused g c =
    let machine = c.args.scene.machine.now in (
      c.requires.carries.0,
      stop-refused g.N.Network.reading g.N.Network.refutes machine c.args.scene.ask.now c.args.board.now c.stop.new.self c.args.branch c.requires.carries.0 c.requires.carries.1 c.in-Err.ensures.same
          (c.in-Err.ensures.shown machine c.requires.set.stands),
    )

pub returns-in-Ok-put_stop-clause-shown : goal.returns-in-Ok-put_stop-clause-shown
returns-in-Ok-put_stop-clause-shown g c =
    let machine = c.args.scene.machine.now in
    let ask = c.args.scene.ask.now in
    let limit = c.args.scene.limit in
    let plans = c.args.board.now.plans in
    let r = c.args.branch in
    let x0 = c.requires.carries.0 in
    let k = c.requires.carries.1 in
    let due = sym c.is_stop_due.ensures ∙ c.if-not-is_stop_due.false in
    let some = (stop-some ask r due).1 in
    let count = k.count in
    let many : 0 < length x0.choices = omega (arith, some, count) in
    let refused = stop-refused g.N.Network.reading g.N.Network.refutes machine ask c.args.board.now c.stop.new.self r x0 k c.in-Err.ensures.same (c.in-Err.ensures.shown machine c.requires.set.stands) in
    let Shown = λ (x : Suffix). Shows machine plans ask c.args.scene.rooms.now.sums limit c.args.nodes.now c.put_stop.new.nodes (λ rows. stop_due machine plans ask rows (branch_by r x)) (λ _. []) in
    own-suffix (suffix_of c.args.board.now) x0 k.carried Shown
    (stop-shows machine plans ask c.args.scene.rooms.now.sums limit c.args.nodes.now c.put_stop.new.nodes r x0 count due
    (subst (λ ps. PutsNode machine ps ask limit c.args.nodes.now c.put_stop.new.nodes (stopped_below r x0) StopHead (λ _. [])) c.stop.ensures.loaded.plans (c.in-Ok-put_stop.ensures (stopped_below r x0) x0 refl refl many refused)))

pub returns-in-Ok-clause-early : goal.returns-in-Ok-clause-early
returns-in-Ok-clause-early g c =
    let machine = c.args.scene.machine.now in
    let ask = c.args.scene.ask.now in
    let r = c.args.branch in
    let x = c.requires.carries.0 in
    let k = c.requires.carries.1 in
    let due = sym c.is_stop_due.ensures ∙ c.if-not-is_stop_due.false in
    let some = (stop-some ask r due).1 in
    let count = k.count in
    let many : 0 < length x.choices = omega (arith, some, count) in
    stopped-ends g.N.Network.reading machine ask c.args.board.now c.requires.set r x k c.requires.placed c.stop.new.self c.args.scene.limit (stop-front ask r due) many (c.requires.ends x k.carried)
    c.in-Ok.ensures.suffix c.stop.ensures.loaded (c.in-Ok.ensures.times machine c.requires.set.stands)
