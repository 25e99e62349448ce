use Rattle.std.proofs.Common.{◌+◌, All, refl, subst, arith}
use Rattle.std.proofs.lemmas.List.Elements.{All-contains}
use Rattle.tp_constraints.proofs.Lists.{contains-get}
use Rattle.tp_schedule_check.specs.Bounds.{EndsWithin}
use Rattle.tp_schedule_check.proofs.ListFacts.{All-more, get-is, take-whole}
use Rattle.tp_schedule_check.proofs.bounds.find_past_horizon.Goals as goal

pub plans-preserved : goal.plans-preserved
plans-preserved c =
    All-more (EndsWithin (c.from.result + c.from-2.result)) c.args.schedule.now.plans c.plans.place c.plan_at-plan.result.now c.plan_at-plan.ensures.plan c.plans.invariant c.in-None.ensures

pub returns : goal.returns
returns c = λ p in' i le free.
    let plans = c.args.schedule.now.plans in
    let within = All-contains (EndsWithin (c.from.result + c.from-2.result)) plans p
    (subst (All (EndsWithin (c.from.result + c.from-2.result))) (take-whole plans c.plans.place (omega arith)) c.plans.invariant) in' i le free in
    let now = c.from.ensures in
    let window = c.from-2.ensures in
    omega (arith, within)

pub returns-in-Some : goal.returns-in-Some
returns-in-Some c =
    let p = c.plan_at-plan.result.now in
    record {
      plan = p;
      point_of = record {
        planned = contains-get c.args.schedule.now.plans c.plans.place p c.plan_at-plan.ensures.plan;
        of = refl;
        tick = get-is p.points c.in-Some.at c.get.result 0 c.get.ensures;
      };
      past = record {
        within = c.in-Some.ensures.within;
        free = c.in-Some.ensures.free;
        past = let now = c.from.ensures in let window = c.from-2.ensures in omega (arith, c.in-Some.ensures.past);
      };
    }
