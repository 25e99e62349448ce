use Rattle.std.proofs.Common.{◌≡◌, ◌+◌, List, ℕ, Some, length, sym, ap, ◌∙◌, arith}
use Rattle.serde_json.specs.View.{view}
use Rattle.tp_schedule.specs.declared.parts.Plan.{Plan}
use Rattle.tp_jobs.specs.Backlogs.{names_of}
use Rattle.tp_snapshot.proofs.PlanFacts.{plan-made}
use Rattle.tp_snapshot.specs.Plans.{owner_of}
use Rattle.tp_snapshot.proofs.plans.read_plan.Goals as goal

pub plan_with-requires-clause-points : goal.plan_with-requires-clause-points
plan_with-requires-clause-points c = let one_more : length c.in_ok-course.course.points ≡ length c.in_ok-course.course.acts + 1 = c.in_ok-course.ensures.points in omega (arith, one_more)

pub returns : goal.returns
returns c =
    let owner : owner_of (names_of c.args.jobs.now) (view c.args.value.now) ≡ Some c.in_ok-owner.owner = ap (λ (names : List (List ℕ)). owner_of names (view c.args.value.now)) (sym c.requires.names) ∙ sym c.read_owner.ensures ∙ c.in_ok-owner.was in
    ap (λ (p : Plan). Some p) c.plan_with.ensures
    ∙ sym (plan-made c.args.machine.now c.args.now c.args.jobs.now (view c.args.value.now) c.in_ok-owner.owner c.in_ok-job.job c.in_ok-course.course c.in_ok-goal.goal (sym c.has_members.ensures ∙ c.if-not-has_members.false) owner
    (sym c.job_at.ensures ∙ c.in_ok-job.was) (sym c.read_course.ensures.course ∙ c.in_ok-course.was) (sym c.goal_at.ensures ∙ c.in_ok-goal.was))
