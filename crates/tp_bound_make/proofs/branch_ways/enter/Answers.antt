use Rattle.std.proofs.Common.{◌≡◌, ◌+◌, ◌<◌, ◌∙◌, suc, length, sym, subst, arith, List, Option, Some}
use Rattle.std.specs.Result.{IfOk}
use Rattle.tp_bounds.specs.declared.tree.TreeRow.{TreeRow}
use Rattle.tp_constraints.specs.Suffixes.{Suffix, order_in}
use Rattle.tp_machine.specs.declared.parts.HoldRule.{HoldRule}
use Rattle.tp_placing.specs.Boards.{suffix_of}
use Rattle.tp_bound_laws.specs.Places.{Due, places_from}
use Rattle.tp_bound_make.specs.TreeProgress.{IsEntered, branch_by, hold_of, left_of, ways_of}
use Rattle.tp_bound_make.specs.declared.scene.ShowBranch.{ShowBranch}
use Rattle.tp_bound_make.proofs.ReasonFacts.{ok-map}
use Rattle.tp_bound_make.proofs.WayFacts.{place-gone}
use Rattle.tp_bound_make.proofs.branch_ways.enter.Goals as goal

pub enter_place-requires-clause-within : goal.enter_place-requires-clause-within
enter_place-requires-clause-within g c x carried =
    let machine = c.args.scene.machine.now in
    let plans = c.args.board.now.plans in
    let next = sym c.next_hold.ensures ∙ c.in-Some.is in
    let w : c.args.way < suc (length (order_in machine plans x c.in-Some.rule.resource.0)) = subst (λ h. c.args.way < ways_of machine plans c.args.scene.ask.now x h) next (c.requires.within x carried) in
    omega (arith, w)

pub enter_child-requires-clause-within : goal.enter_child-requires-clause-within
enter_child-requires-clause-within g c x carried =
    subst (λ h. c.args.way < ways_of c.args.scene.machine.now c.args.board.now.plans c.args.scene.ask.now x h) (sym c.next_hold.ensures ∙ c.in-None.is) (c.requires.within x carried)

pub returns-in-Some-clause-entered : goal.returns-in-Some-clause-entered
returns-in-Some-clause-entered g c =
    let machine = c.args.scene.machine.now in
    let ask = c.args.scene.ask.now in
    let plans = c.args.board.now.plans in
    let r = c.args.branch in
    let way = c.args.way in
    let rule = c.in-Some.rule in
    let hold = hold_of machine r in
    let Entered = λ (from to : Suffix → List TreeRow → List Due) (o : Option ShowBranch). (x : Suffix) → suffix_of c.args.board.now ≡ Some x
    → IsEntered g.N.Network.reading machine plans ask c.args.scene.rooms.now.sums c.args.scene.limit c.args.nodes.now c.enter_place.new.nodes c.enter_place.new.board r (from x) (to x) o in
    ok-map (Entered (λ x rows. places_from machine plans ask rows (branch_by r x) rule way) (λ x rows. places_from machine plans ask rows (branch_by r x) rule (way + 1)))
    (Entered (λ x rows. left_of machine plans ask rows (branch_by r x) hold way) (λ x rows. left_of machine plans ask rows (branch_by r x) hold (suc way))) c.enter_place.result
    (λ o entered x carried. place-gone g.N.Network.reading machine plans ask c.args.scene.rooms.now.sums c.args.scene.limit c.args.nodes.now c.enter_place.new.nodes c.enter_place.new.board r o x way rule hold
    (sym c.next_hold.ensures ∙ c.in-Some.is) (entered x carried))
    c.enter_place.ensures.entered

pub returns-in-None-clause-entered : goal.returns-in-None-clause-entered
returns-in-None-clause-entered g c =
    let machine = c.args.scene.machine.now in
    let ask = c.args.scene.ask.now in
    let plans = c.args.board.now.plans in
    let r = c.args.branch in
    let way = c.args.way in
    let Entered = λ (h : Option HoldRule) (o : Option ShowBranch). (x : Suffix) → suffix_of c.args.board.now ≡ Some x
    → IsEntered g.N.Network.reading machine plans ask c.args.scene.rooms.now.sums c.args.scene.limit c.args.nodes.now c.enter_child.new.nodes c.enter_child.new.board r
    (λ rows. left_of machine plans ask rows (branch_by r x) h way) (λ rows. left_of machine plans ask rows (branch_by r x) h (suc way)) o in
    subst (λ h. IfOk c.enter_child.result (Entered h)) (sym (sym c.next_hold.ensures ∙ c.in-None.is)) c.enter_child.ensures.entered

pub enter_child-requires-clause-placed : goal.enter_child-requires-clause-placed
enter_child-requires-clause-placed g c = sym c.next_hold.ensures ∙ c.in-None.is
