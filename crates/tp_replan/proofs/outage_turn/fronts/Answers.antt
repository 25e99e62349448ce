-- The plan at the place is a front, or is not.
use Rattle.tp_schedule.specs.Plans.{is_front}
use Rattle.tp_schedule.specs.declared.parts.Plan.{Plan}
use Rattle.tp_replan.proofs.FateFacts.{kept-next, left-next}
use Rattle.tp_replan.proofs.outage_turn.fronts.Goals as goal
use Rattle.tp_replan.proofs.outage_turn.fronts.Goals.{then-is_front+in_ok-push, else-is_front}

pub loop-at-preserved : goal.loop-at-preserved
loop-at-preserved c =
    let plans = c.args.schedule.now.plans in
    let p = c.plan_at-plan.result.now in
    elim c.if-is_front.branch [
      | then-is_front+in_ok-push w ↦ rw w.copies-is (
          kept-next (λ (q : Plan). is_front q.kind) (λ q. q.sheet) plans c.loop-at.at p c.loop-at.copies.items w.push.new.self.items
          c.plan_at-plan.ensures.plan w.if-is_front.ensures c.loop-at.invariant w.in_ok-push.ensures.items)
      | else-is_front w ↦ rw w.copies-is (
          left-next (λ (q : Plan). is_front q.kind) (λ q. q.sheet) plans c.loop-at.at p c.loop-at.copies.items
          c.plan_at-plan.ensures.plan w.if-is_front.ensures c.loop-at.invariant)
    ]
