-- The copy at the place is one of them, or is not.
use Rattle.std.proofs.Common.{◌∙◌, ◌||◌, ap}
use Rattle.tp_schedule.specs.declared.parts.Plan.{Plan}
use Rattle.tp_event_rules.specs.Fates.{is_loss}
use Rattle.tp_event_rules.specs.Lines.{is_lost}
use Rattle.tp_event_rules.specs.LiveStates.{seen}
use Rattle.tp_replan.proofs.FateFacts.{fate-at, kept-next, left-next}
use Rattle.tp_replan.specs.declared.fate.Fate.TheVariants.{Stays}
use Rattle.tp_replan.proofs.lost_copies.lost_by.Goals as goal
use Rattle.tp_replan.proofs.lost_copies.lost_by.Goals.{then-is_lost_by+in_ok-push, else-is_lost_by}

pub loop-at-preserved : goal.loop-at-preserved
loop-at-preserved c = λ rule e.
    let s = seen c.args.state.now in
    let p = c.plan_at-plan.result.now in
    let at = c.plan_at-plan.ensures.plan in
    let its = ap (λ f. is_lost s p || is_loss f) (fate-at rule s.plans c.args.fates.now e c.loop-at.at p Stays at) in
    elim c.if-is_lost_by.branch [
      | then-is_lost_by+in_ok-push w ↦ rw w.copies-is (
          kept-next (λ (q : Plan). is_lost s q || is_loss (rule q)) (λ q. q.sheet) s.plans c.loop-at.at p
          c.loop-at.copies.items w.push.new.self.items at (w.if-is_lost_by.ensures ∙ its) (c.loop-at.invariant rule e)
          w.in_ok-push.ensures.items)
      | else-is_lost_by w ↦ rw w.copies-is (
          left-next (λ (q : Plan). is_lost s q || is_loss (rule q)) (λ q. q.sheet) s.plans c.loop-at.at p
          c.loop-at.copies.items at (w.if-is_lost_by.ensures ∙ its) (c.loop-at.invariant rule e))
    ]
