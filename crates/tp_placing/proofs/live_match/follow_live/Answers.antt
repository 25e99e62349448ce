use Rattle.std.proofs.Common.{◌∙◌, ◌≡◌, ◌+◌, ◌++◌, ◌∷◌, [], ap, sym, subst, arith, drop, filter, length, take}
use Rattle.std.proofs.lemmas.List.{append-nil, drop_all, take-take}
use Rattle.tp_schedule.specs.LivePlans.{is_live}
use Rattle.tp_placing.proofs.FollowedPlans.{passed-before, passed-behind}
use Rattle.tp_placing.proofs.LiveFacts.{keep-passed, keep-failed}
use Rattle.tp_placing.proofs.live_match.follow_live.Goals.{then-is_live+then-is_met, then-is_live+else-is_met+in-Some, else-is_live}
use Rattle.tp_placing.proofs.live_match.follow_live.Goals as goal

pub loop-at-preserved : goal.loop-at-preserved
loop-at-preserved c = elim c.if-is_live.branch [
  | then-is_live+then-is_met w ↦ (
      let v = c.loop-at.invariant in
      let live = sym c.is_live.ensures ∙ w.if-is_live.true in
      let value = w.deref.ensures.value in
      let next : take (c.loop-at.seen + 1) c.loop-at.plans.items ≡ take c.loop-at.seen c.loop-at.plans.items ++ c.plan_at-plan.result.now ∷ [] =
      subst (λ ps. take (c.loop-at.seen + 1) ps ≡ take c.loop-at.seen ps ++ c.plan_at-plan.result.now ∷ []) value (w.is_met.ensures.met w.if-is_met.true) in
      let met = ap (filter (is_live c.args.machine.now c.args.now)) next ∙ passed-behind (is_live c.args.machine.now c.args.now) (take c.loop-at.seen c.loop-at.plans.items) c.plan_at-plan.result.now live in
      let there = w.is_met.ensures.there w.if-is_met.true in
      let count = ap length value in
      rw (w.plans-is, w.seen-is) (record {
        all = rw met (keep-passed (is_live c.args.machine.now c.args.now) (filter (is_live c.args.machine.now c.args.now) (take c.loop-at.seen c.loop-at.plans.items)) c.args.schedule.now.plans _ c.loop-at.at c.plan_at-plan.result.now c.plan_at-plan.ensures.plan v.all live);
        within = omega (arith, there, count);
        kept = v.kept;
        more = v.more;
        space = v.space;
      }))
  | then-is_live+else-is_met+in-Some w ↦ (
      let v = c.loop-at.invariant in
      let live = sym c.is_live.ensures ∙ w.if-is_live.true in
      let met = w.in-Some.ensures.met in
      let there = w.in-Some.ensures.there in
      let more = w.meet.ensures.more in
      let longer = v.more in
      let wide = v.space in
      let wider = w.meet.ensures.space in
      rw (w.plans-is, w.seen-is) (record {
        all = rw met (keep-passed (is_live c.args.machine.now c.args.now) (filter (is_live c.args.machine.now c.args.now) (take c.loop-at.seen c.loop-at.plans.items)) c.args.schedule.now.plans _ c.loop-at.at c.plan_at-plan.result.now c.plan_at-plan.ensures.plan v.all live);
        within = omega arith;
        kept = sym (take-take (length c.args.plans.now.items) (length c.loop-at.plans.items) w.meet.new.plans.items longer) ∙ ap (take (length c.args.plans.now.items)) w.meet.ensures.kept ∙ v.kept;
        more = omega arith;
        space = omega arith;
      }))
  | else-is_live w ↦ (
      let v = c.loop-at.invariant in
      let past = sym c.is_live.ensures ∙ w.if-is_live.false in
      rw (w.plans-is, w.seen-is) (record {
        all = keep-failed (is_live c.args.machine.now c.args.now) (filter (is_live c.args.machine.now c.args.now) (take c.loop-at.seen c.loop-at.plans.items)) c.args.schedule.now.plans _ c.loop-at.at c.plan_at-plan.result.now c.plan_at-plan.ensures.plan v.all past;
        within = v.within;
        kept = v.kept;
        more = v.more;
        space = v.space;
      }))
]

pub returns-clause-live : goal.returns-clause-live
returns-clause-live c over =
    let end : drop c.loop-at.at c.args.schedule.now.plans ≡ [] = drop_all c.loop-at.at c.args.schedule.now.plans (omega (arith, c.loop-at-test.false)) in
    let first = take c.loop-at.seen c.loop-at.plans.items in
    passed-before (is_live c.args.machine.now c.args.now) c.loop-at.plans.items c.loop-at.seen (ap (λ ps. filter (is_live c.args.machine.now c.args.now) (drop c.loop-at.seen ps)) (sym c.deref-2.ensures.value) ∙ c.are_over.ensures over)
    ∙ sym (append-nil (filter (is_live c.args.machine.now c.args.now) first))
    ∙ ap (λ ps. filter (is_live c.args.machine.now c.args.now) first ++ filter (is_live c.args.machine.now c.args.now) ps) (sym end)
    ∙ c.loop-at.invariant.all
