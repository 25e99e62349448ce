use Rattle.std.proofs.Common.{◌∙◌, sym, arith}
use Rattle.tp_schedule.specs.LivePlans.{is_live}
use Rattle.tp_placing.proofs.LiveFacts.{keep-passed, keep-failed, keep-fits}
use Rattle.tp_placing.proofs.kept_plans.keep_live.Goals.{then-is_live+in-Ok, else-is_live}
use Rattle.tp_placing.proofs.kept_plans.keep_live.Goals as goal

pub unreachable-requires : goal.unreachable-requires
unreachable-requires c =
    let fits = keep-fits (is_live c.args.machine.now c.args.now) c.loop-at.plans.items c.args.schedule.now.plans _ c.loop-at.at c.plan_at-plan.result.now c.plan_at-plan.ensures.plan c.loop-at.invariant.all (sym c.is_live.ensures ∙ c.if-is_live.true) in
    let full = c.in-Err.ensures.full in
    let len = c.loop-at.plans.ok.0 in
    let space = c.loop-at.invariant.space in
    let enough = c.requires.space in
    omega arith

pub loop-at-preserved : goal.loop-at-preserved
loop-at-preserved c = elim c.if-is_live.branch [
  | then-is_live+in-Ok w ↦ (
      let live = sym c.is_live.ensures ∙ w.if-is_live.true in
      let pushed = rw w.copy.ensures.same at w.in-Ok.ensures.items in
      let wider = w.push.ensures.capacity in
      let wide = c.loop-at.invariant.space in
      rw w.plans-is (record {
        all = rw pushed (keep-passed (is_live c.args.machine.now c.args.now) c.loop-at.plans.items c.args.schedule.now.plans _ c.loop-at.at c.plan_at-plan.result.now c.plan_at-plan.ensures.plan c.loop-at.invariant.all live);
        space = omega arith;
      }))
  | else-is_live w ↦ (
      let past = sym c.is_live.ensures ∙ w.if-is_live.false in
      rw w.plans-is (record {
        all = keep-failed (is_live c.args.machine.now c.args.now) c.loop-at.plans.items c.args.schedule.now.plans _ c.loop-at.at c.plan_at-plan.result.now c.plan_at-plan.ensures.plan c.loop-at.invariant.all past;
        space = c.loop-at.invariant.space;
      }))
]
