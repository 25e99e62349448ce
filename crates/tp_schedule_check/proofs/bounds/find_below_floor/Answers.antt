use Rattle.std.proofs.Common.{◌+◌, All, IsFalse, refl, subst, arith}
use Rattle.std.proofs.lemmas.List.Elements.{All-contains}
use Rattle.tp_schedule.specs.declared.parts.Plan.{Plan}
use Rattle.tp_constraints.proofs.Lists.{contains-get}
use Rattle.tp_schedule_check.specs.Bounds.{StartsAbove}
use Rattle.tp_schedule_check.specs.Early.{is_exempt}
use Rattle.tp_schedule_check.proofs.ListFacts.{All-more, get-is, take-whole}
use Rattle.tp_schedule_check.proofs.bounds.find_below_floor.Goals as goal

pub plans-preserved : goal.plans-preserved
plans-preserved c =
    All-more (λ (p : Plan). IsFalse (is_exempt c.args.exempt p) → StartsAbove (c.from.result + c.from-2.result) p) c.args.schedule.now.plans c.plans.place c.plan_at-plan.result.now c.plan_at-plan.ensures.plan c.plans.invariant
    c.in-None.ensures

pub returns : goal.returns
returns c = λ p in' free i from to.
    let plans = c.args.schedule.now.plans in
    let above = All-contains (λ (p : Plan). IsFalse (is_exempt c.args.exempt p) → StartsAbove (c.from.result + c.from-2.result) p) plans p
    (subst (All (λ (p : Plan). IsFalse (is_exempt c.args.exempt p) → StartsAbove (c.from.result + c.from-2.result) p)) (take-whole plans c.plans.place (omega arith)) c.plans.invariant) in' free i from to in
    let now = c.from.ensures in
    let lead = c.from-2.ensures in
    omega (arith, above)

pub returns-in-Some : goal.returns-in-Some
returns-in-Some c =
    let p = c.plan_at-plan.result.now in
    record {
      plan = p;
      point_of = record {
        planned = contains-get c.args.schedule.now.plans c.plans.place p c.plan_at-plan.ensures.plan;
        of = refl;
        tick = get-is p.points c.in-Some.at c.get.result 0 c.get.ensures;
      };
      bound = c.in-Some.ensures.0;
      low = record {
        unreleased = c.in-Some.ensures.1.unreleased;
        start = c.in-Some.ensures.1.start;
        low = let now = c.from.ensures in let lead = c.from-2.ensures in omega (arith, c.in-Some.ensures.1.low);
      };
    }
