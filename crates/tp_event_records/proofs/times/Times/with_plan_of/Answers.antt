-- Without a plan of the copy the others are all; its plan is added where it is the last.
use Rattle.std.proofs.Common.{◌∙◌, ◌≤◌, ◌++◌, ◌∷◌, [], suc, ap, arith, length, sym}
use Rattle.tp_event_records.specs.RecordNames.{points_of}
use Rattle.tp_event_records.proofs.LastPlan.{none-there, place-within, points-last}
use Rattle.tp_event_records.proofs.times.Times.with_plan_of.Goals as goal

pub returns-in_default : goal.returns-in_default
returns-in_default c = record {
  all = c.requires.others ∙ ap points_of (none-there c.args.copy c.args.schedule.now.plans (sym c.in_default.is ∙ c.find.ensures));
  none = tt;
}

pub returns-then-at-len : goal.returns-then-at-len
returns-then-at-len c =
    let len = c.len.ensures.len in
    record {
      all = tt;
      none = (c.in-Some.at, sym c.find.ensures ∙ c.in-Some.is, omega (arith, c.if-at-len.true));
    }

pub overflow_add-at : goal.overflow_add-at
overflow_add-at c =
    let within = place-within c.args.copy c.args.schedule.now.plans c.in-Some.at (sym c.in-Some.is ∙ c.find.ensures) in
    let fits = c.ordered.ensures.fits in
    omega arith

pub returns : goal.returns
returns c =
    let len = c.len.ensures.len in
    let last = c.if-at-len.false in
    let few : length c.args.schedule.now.plans ≤ suc c.in-Some.at = omega arith in
    record {
      all = c.in_ok-push.ensures ∙ ap (λ ts. ts ++ c.plan_at.result.now.points ∷ []) c.requires.others
          ∙ points-last c.args.copy c.args.schedule.now.plans c.in-Some.at c.plan_at.result.now (sym c.in-Some.is ∙ c.find.ensures) few c.plan_at.ensures.plan;
      none = tt;
    }
