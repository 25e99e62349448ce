use Rattle.std.proofs.Common.{◌∙◌, ◌+◌, ◌++◌, ap, sym, drop, arith}
use Rattle.std.proofs.lemmas.Grind.{common_steps}
use Rattle.tp_schedule_check.specs.Early.{acts_steps, plans_steps}
use Rattle.tp_schedule_check.proofs.ListFacts.{drop-one, next-piece}
use Rattle.tp_schedule_check.proofs.early.add_durations.Goals as goal

pub plans-preserved : goal.plans-preserved
plans-preserved c =
    let plans = c.args.schedule.now.plans in
    let machine = c.args.machine.now in
    let p = c.plan_at-plan.result.now in
    let n = c.plans.number in
    let few = c.len.ensures.within in
    record {
      number = omega arith;
      steps = next-piece c.plans.steps.items c.add_acts.new.steps.items (acts_steps machine n p.acts p.points) (plans_steps machine n (drop c.plans.at plans)) (plans_steps machine (n + (c.len.result + 1)) (drop (c.plans.at + 1) plans)) (c.args.steps.now.items ++ plans_steps machine 0 plans)
          c.plans.invariant.steps
          (ap (plans_steps machine n) (drop-one plans c.plans.at p c.plan_at-plan.ensures.plan) ∙ ap (λ k. acts_steps machine n p.acts p.points ++ plans_steps machine (n + (k + 1)) (drop (c.plans.at + 1) plans)) (sym c.len.ensures.len))
          c.in_ok-add_acts.ensures;
    }

pub returns : goal.returns
returns c = grind (arith, common_steps)
