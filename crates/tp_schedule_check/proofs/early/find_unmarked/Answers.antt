use Rattle.std.proofs.Common.{◌+◌, ap, subst, sym, inl, inr, drop, arith}
use Rattle.tp_schedule_check.specs.Early.{AreMarked, IsUnmarkedAt}
use Rattle.tp_schedule_check.specs.Lines.{point_count}
use Rattle.tp_schedule_check.proofs.ListFacts.{drop-one}
use Rattle.tp_schedule_check.proofs.early.find_unmarked.Goals as goal

pub find_in-requires-clause-within : goal.find_in-requires-clause-within
find_in-requires-clause-within c =
    let more = ap point_count (drop-one c.args.schedule.now.plans c.plans.at c.plan_at-plan.result.now c.plan_at-plan.ensures.plan) in
    let all = c.requires in
    let number = c.plans.invariant.number in
    omega arith

pub returns-in-Some : goal.returns-in-Some
returns-in-Some c =
    c.plans.invariant.bare c.in-Some.early
    (subst (λ ps. IsUnmarkedAt c.args.marks.now c.plans.number ps c.in-Some.early) (sym (drop-one c.args.schedule.now.plans c.plans.at c.plan_at-plan.result.now c.plan_at-plan.ensures.plan)) (inl c.in-Some.ensures))

pub plans-preserved : goal.plans-preserved
plans-preserved c =
    let marks = c.args.marks.now in
    let plans = c.args.schedule.now.plans in
    let p = c.plan_at-plan.result.now in
    let n = c.plans.number in
    let rest = drop (c.plans.at + 1) plans in
    let split = drop-one plans c.plans.at p c.plan_at-plan.ensures.plan in
    let more = ap point_count split in
    let acts = c.len.ensures.len in
    let number = c.plans.invariant.number in
    record {
      number = omega arith;
      marked = λ later. c.plans.invariant.marked (subst (AreMarked marks n) (sym split) (c.in-None.ensures, subst (λ k. AreMarked marks (n + (k + 1)) rest) acts later));
      bare = λ early later. c.plans.invariant.bare early (subst (λ ps. IsUnmarkedAt marks n ps early) (sym split) (inr (subst (λ k. IsUnmarkedAt marks (n + (k + 1)) rest early) acts later)));
    }
