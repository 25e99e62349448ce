use Rattle.std.proofs.Common.{◌∙◌, ◌≡◌, true, All, arith, subst, sym}
use Rattle.std.proofs.lemmas.List.{take_all}
use Rattle.std.proofs.lemmas.List.Elements.{All-more}
use Rattle.tp_choices.proofs.Lists.{filter-all}
use Rattle.tp_schedule.specs.LivePlans.{is_live}
use Rattle.tp_schedule.specs.declared.parts.Plan.{Plan}
use Rattle.tp_placing.proofs.live_match.are_live.Goals as goal

pub loop-plan-preserved : goal.loop-plan-preserved
loop-plan-preserved c =
    let x = c.plan-item.result in
    All-more (λ p. is_live c.args.machine.now c.args.now p ≡ true) c.args.plans.now c.loop-plan.plan-index x c.loop-plan-test.true c.loop-plan.invariant
    (subst (λ (p : Plan). is_live c.args.machine.now c.args.now p ≡ true) c.plan-item.is (sym c.is_live.ensures ∙ c.if-not-is_live.false))

pub returns : goal.returns
returns c _ =
    let all = take_all c.loop-plan.plan-index c.args.plans.now (omega (arith, c.loop-plan-test.false)) in
    filter-all (is_live c.args.machine.now c.args.now) c.args.plans.now (subst (All (λ p. is_live c.args.machine.now c.args.now p ≡ true)) all c.loop-plan.invariant)
