use Rattle.std.proofs.Common.{◌≡◌, ℕ, ◌∙◌, ◌+◌, ◌-◌, ◌∷◌, ◌++◌, ap, sym, drop, length, arith, cond, Some, nat_eq, option_and_then}
use Rattle.std.specs.HashMap.{get}
use Rattle.tp_schedule.specs.Plans.{is_delivered_to}
use Rattle.tp_schedule_check.specs.Lines.{end_of, line_of, line_pairs, next_to, pair_with, point_count}
use Rattle.tp_schedule_check.proofs.LineFacts.{count-later, next-found}
use Rattle.tp_schedule_check.proofs.ListFacts.{drop-one}
use Rattle.tp_schedule_check.proofs.line_ends.line_pairs.Goals as goal

pub overflow_sub-number : goal.overflow_sub-number
overflow_sub-number c =
    let plans = c.args.schedule.now.plans in
    let at = c.plans.at in
    let some = c.plans-test.true in
    let before : at - 1 + 1 ≡ at = omega arith in
    let split = drop-one plans (at - 1) c.plan_at-plan.result.now c.plan_at-plan.ensures.plan ∙ ap (λ k. c.plan_at-plan.result.now ∷ drop k plans) before in
    let count = ap point_count split in
    let later = count-later (at - 1) plans in
    let number = c.plans.invariant.number in
    let acts = c.len.ensures.len in
    omega arith

pub plans-preserved : goal.plans-preserved
plans-preserved c =
    let plans = c.args.schedule.now.plans in
    let p = c.plan_at-plan.result.now in
    let at = c.plans.at in
    let some = c.plans-test.true in
    let within = c.plans.invariant.within in
    let number = c.plans.invariant.number in
    let few = c.plans.invariant.few in
    let acts = c.len.ensures.len in
    let before : at - 1 + 1 ≡ at = omega arith in
    let split = drop-one plans (at - 1) p c.plan_at-plan.ensures.plan ∙ ap (λ k. p ∷ drop k plans) before in
    let count = ap point_count split in
    let later = count-later (at - 1) plans in
    let n = c.plans.number - (c.len.result + 1) in
    let next : c.plans.number ≡ n + (length p.acts + 1) = omega arith in
    let found : (tray : ℕ) → get nat_eq c.plans.next tray ≡ next_to tray (n + (length p.acts + 1)) (drop at plans) = λ tray. c.plans.invariant.next tray ∙ ap (λ m. next_to tray m (drop at plans)) next in
    record {
      within = omega arith;
      number = omega arith;
      few = omega arith;
      next = λ tray. c.in_ok-put_end.ensures.next tray ∙ ap (λ o. cond (is_delivered_to p tray) (Some (end_of n p)) o) (found tray) ∙ sym (ap (next_to tray n) split);
      pairs = c.in_ok-put_end.ensures.pairs
          ∙ ap (λ xs. xs ++ pair_with (end_of n p) (option_and_then (λ t. get nat_eq c.plans.next t.0) (line_of p.kind p.goal))) (c.plans.invariant.pairs ∙ ap (λ m. line_pairs m (drop at plans)) next)
          ∙ ap (λ o. line_pairs (n + (length p.acts + 1)) (drop at plans) ++ pair_with (end_of n p) o) (next-found (get nat_eq c.plans.next) (n + (length p.acts + 1)) (drop at plans) found (line_of p.kind p.goal))
          ∙ sym (ap (line_pairs n) split);
    }
