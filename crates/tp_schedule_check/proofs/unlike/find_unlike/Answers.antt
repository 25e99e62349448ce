use Rattle.std.proofs.Common.{◌≡◌, ◌⊎◌, inl, inr, ◌∙◌, [], drop, sym, arith}
use Rattle.tp_schedule_check.specs.Alike.{others}
use Rattle.tp_schedule_check.proofs.AlikeFacts.{both-next, is-unlike, none-behind, one-left, one-right, unlike-left}
use Rattle.tp_schedule_check.proofs.unlike.find_unlike.Goals as goal
use Rattle.tp_schedule_check.proofs.unlike.find_unlike.Goals.{then-plans-test+else-to-len, else-plans-test}

pub plans-preserved-then-is_exempt : goal.plans-preserved-then-is_exempt
plans-preserved-then-is_exempt c =
    one-left c.args.asked c.args.before.now.plans c.args.after.now.plans c.plans.from c.plans.to c.plans.invariant c.plan_at-old.result.now c.plan_at-old.ensures.plan (sym c.is_exempt.ensures ∙ c.if-is_exempt.true) (omega (arith, c.plans-test.true))

pub plans-preserved-then-is_exempt-2 : goal.plans-preserved-then-is_exempt-2
plans-preserved-then-is_exempt-2 c =
    one-right c.args.asked c.args.before.now.plans c.args.after.now.plans c.plans.from c.plans.to c.plans.invariant c.plan_at-new.result.now c.plan_at-new.ensures.plan (sym c.is_exempt-else-is_exempt.ensures ∙ c.if-is_exempt-2.true) (omega (arith, c.if-to-len.true))

pub plans-preserved : goal.plans-preserved
plans-preserved c =
    both-next c.args.asked c.args.before.now.plans c.args.after.now.plans c.plans.from c.plans.to c.plans.invariant c.plan_at-old.result.now c.plan_at-new.result.now c.plan_at-old.ensures.plan c.plan_at-new.ensures.plan
    (sym c.is_exempt.ensures ∙ c.if-is_exempt.false) (sym c.is_exempt-else-is_exempt.ensures ∙ c.if-is_exempt-2.false) c.in-None.ensures (omega (arith, c.plans-test.true)) (omega (arith, c.if-to-len.true))

pub returns-in-Some : goal.returns-in-Some
returns-in-Some c =
    is-unlike c.args.asked c.args.before.now.plans c.args.after.now.plans c.plans.from c.plans.to c.plans.invariant c.plan_at-old.result.now c.plan_at-new.result.now c.plan_at-old.ensures.plan c.plan_at-new.ensures.plan
    (sym c.is_exempt.ensures ∙ c.if-is_exempt.false) (sym c.is_exempt-else-is_exempt.ensures ∙ c.if-is_exempt-2.false) c.in-Some.unlike c.in-Some.ensures

pub returns-else-left : goal.returns-else-left
returns-else-left c = λ alike. (
    let asked = c.args.asked in
    let before = c.args.before.now.plans in
    let after = c.args.after.now.plans in
    let ended : (others asked (drop c.plans.from before) ≡ []) ⊎ (others asked (drop c.plans.to after) ≡ []) = elim c.plans-test.branch [
      | then-plans-test+else-to-len w ↦ inr (none-behind asked after c.plans.to (omega (arith, w.if-to-len.false, w.len-in-plans.ensures.len)))
      | else-plans-test w ↦ inl (none-behind asked before c.plans.from (omega (arith, w.plans-test.false, c.len.ensures.len)))
    ] in
    unlike-left (others asked (drop c.plans.from before)) (others asked (drop c.plans.to after)) c.are_passed-left.result c.are_passed-more.result c.are_passed-left.ensures.1 c.are_passed-more.ensures.1 ended c.else-left.either (c.plans.invariant.rest alike))
