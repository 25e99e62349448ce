use Rattle.std.proofs.Common.{◌≡◌, ◌<◌, ◌-◌, suc, [], arith, subst, List, Option, Some, None}
use Rattle.tp_bounds.specs.declared.tree.TreeRow.{TreeRow}
use Rattle.tp_constraints.specs.Suffixes.{Suffix}
use Rattle.tp_placing.specs.Boards.{suffix_of}
use Rattle.tp_bound_laws.specs.Places.{Due, action_due}
use Rattle.tp_bound_make.specs.TreeProgress.{IsEntered, branch_by, left_of, ways_of}
use Rattle.tp_bound_make.specs.declared.scene.ShowBranch.{ShowBranch}
use Rattle.tp_bound_make.proofs.ReasonFacts.{ok-map}
use Rattle.tp_bound_make.proofs.WayFacts.{act-gone, stop-gone, ways-fewer}
use Rattle.tp_bound_make.proofs.branch_ways.enter_child.Goals as goal

pub returns-then-way-gt0-clause-entered : goal.returns-then-way-gt0-clause-entered
returns-then-way-gt0-clause-entered g c =
    let machine = c.args.scene.machine.now in
    let ask = c.args.scene.ask.now in
    let plans = c.args.board.now.plans in
    let r = c.args.branch in
    let way = c.args.way in
    let Entered = λ (from to : Suffix → List TreeRow → List Due) (o : Option ShowBranch). (x : Suffix) → suffix_of c.args.board.now ≡ Some x
    → IsEntered g.N.Network.reading machine plans ask c.args.scene.rooms.now.sums c.args.scene.limit c.args.nodes.now c.enter_act.new.nodes c.enter_act.new.board r (from x) (to x) o in
    ok-map (Entered (λ x rows. action_due machine plans ask rows (branch_by r x) (record { 0 = way - 1 })) (λ x rows. []))
    (Entered (λ x rows. left_of machine plans ask rows (branch_by r x) None way) (λ x rows. left_of machine plans ask rows (branch_by r x) None (suc way))) c.enter_act.result
    (λ o entered x carried. act-gone g.N.Network.reading machine plans ask c.args.scene.rooms.now.sums c.args.scene.limit c.args.nodes.now c.enter_act.new.nodes c.enter_act.new.board r o x way (way - 1) (omega arith)
    (c.requires.within x carried) (entered x carried))
    c.enter_act.ensures.entered

pub returns-in-Ok-clause-entered : goal.returns-in-Ok-clause-entered
returns-in-Ok-clause-entered g c x carried =
    stop-gone c.args.scene.machine.now c.args.board.now.plans c.args.scene.ask.now c.args.scene.rooms.now.sums c.args.scene.limit c.args.nodes.now c.enter_stop.new.nodes c.args.branch x c.args.way (omega arith) (c.in-Ok.ensures.shown x carried)

pub enter_act-requires-clause-known : goal.enter_act-requires-clause-known
enter_act-requires-clause-known g c =
    let machine = c.args.scene.machine.now in
    let plans = c.args.board.now.plans in
    let ask = c.args.scene.ask.now in
    let x = c.requires.carries.0 in
    let next : c.args.way ≡ suc (c.args.way - 1) = omega arith in
    (ways-fewer machine plans ask x (c.args.way - 1) (subst (λ n. n < ways_of machine plans ask x None) next (c.requires.within x c.requires.carries.1.carried))).1

pub enter_act-requires-clause-fewer : goal.enter_act-requires-clause-fewer
enter_act-requires-clause-fewer g c x carried =
    let machine = c.args.scene.machine.now in
    let plans = c.args.board.now.plans in
    let ask = c.args.scene.ask.now in
    let next : c.args.way ≡ suc (c.args.way - 1) = omega arith in
    (ways-fewer machine plans ask x (c.args.way - 1) (subst (λ n. n < ways_of machine plans ask x None) next (c.requires.within x carried))).0
