use Rattle.std.proofs.Common.{◌≡◌, ◌+◌, ◌-◌, ◌∙◌, suc, ℕ, length, sym, subst, arith, List, Option, Some}
use Rattle.tp_bounds.specs.declared.tree.TreeRow.{TreeRow}
use Rattle.tp_constraints.specs.Suffixes.{Suffix, order_in}
use Rattle.tp_machine.specs.declared.parts.HoldRule.{HoldRule}
use Rattle.tp_placing.specs.Boards.{suffix_of}
use Rattle.tp_bound_make.specs.TreeProgress.{Shows, branch_by, hold_of, left_of, ways_of}
use Rattle.tp_bound_make.proofs.CarryFacts.{hold-known, own-suffix}
use Rattle.tp_bound_make.proofs.RangeFacts.{ok-next}
use Rattle.tp_bound_make.proofs.widest_places.close_from.Goals as goal

pub widest-requires-clause-last : goal.widest-requires-clause-last
widest-requires-clause-last g c x carried =
    let machine = c.args.scene.machine.now in
    let plans = c.args.board.now.plans in
    let next : hold_of machine c.args.branch ≡ Some c.in-Some.rule = sym c.next_hold.ensures ∙ c.in-Some.is in
    let all : c.args.count ≡ suc (length (order_in machine plans x c.in-Some.rule.resource.0)) = subst (λ h. c.args.count ≡ ways_of machine plans c.args.scene.ask.now x h) next (c.requires.count x carried) in
    omega (arith, all)

pub put-requires-clause-known : goal.put-requires-clause-known
put-requires-clause-known g c = hold-known c.args.scene.machine.now c.args.branch c.in-Some.rule (sym c.next_hold.ensures ∙ c.in-Some.is)

pub returns-in-Ok-Some-clause-shown : goal.returns-in-Ok-Some-clause-shown
returns-in-Ok-Some-clause-shown g c =
    let machine = c.args.scene.machine.now in
    let ask = c.args.scene.ask.now in
    let limit = c.args.scene.limit in
    let sums = c.args.scene.rooms.now.sums in
    let plans = c.args.board.now.plans in
    let r = c.args.branch in
    let rule = c.in-Some.rule in
    let way = c.args.way in
    let range = c.in-Ok-Some.range in
    let x0 = c.requires.carries.0 in
    let carried = c.requires.carries.1.carried in
    let next : hold_of machine r ≡ Some rule = sym c.next_hold.ensures ∙ c.in-Some.is in
    let all : c.args.count ≡ suc (length (order_in machine plans x0 rule.resource.0)) = subst (λ h. c.args.count ≡ ways_of machine plans ask x0 h) next (c.requires.count x0 carried) in
    let last : c.args.count - 1 ≡ length (order_in machine plans x0 rule.resource.0) = omega (arith, all) in
    let found = (rw c.in-Ok-Some.field-0-is at c.in-Ok-Some.ensures).range x0 carried in
    let Shown = λ (h : Option HoldRule) (n : ℕ) (x : Suffix). Shows machine plans ask sums limit c.args.nodes.now c.put.new.nodes (λ (rows : List TreeRow). left_of machine plans ask rows (branch_by r x) h way) (λ rows. left_of machine plans ask rows (branch_by r x) h n) in
    ok-next _ (λ n. (x : Suffix) → suffix_of c.args.board.now ≡ Some x → Shown (hold_of machine r) n x) (range.hi + 1) c.put.result c.put.ensures.next c.put.ensures.shown
    (λ shown. own-suffix (suffix_of c.args.board.now) x0 carried (Shown (hold_of machine r) (range.hi + 1)) (subst (λ h. Shown h (range.hi + 1) x0) (sym next) (shown plans x0 way last found)))
