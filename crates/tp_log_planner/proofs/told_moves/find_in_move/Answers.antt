-- What the plan breaks by itself at the new points the move breaks.
use Rattle.std.proofs.Common.{None, inr, subst}
use Rattle.std.specs.Prelude.{IfOk, IfSome}
use Rattle.tp_schedule.specs.Plans.{with_points}
use Rattle.tp_log_planner.specs.Breaches.{IsOffByItself, IsOffMove}
use Rattle.tp_log_planner.specs.ToldMoves.{IsKeptPlan}
use Rattle.tp_log_planner.specs.Reasons.{IsOff}
use Rattle.tp_schedule_check.specs.Alike.{KeepsPoints}
use Rattle.tp_log_planner.proofs.AloneFacts.{ok-some-by}
use Rattle.tp_log_planner.proofs.ReasonFacts.{off-ok}
use Rattle.tp_log_planner.proofs.told_moves.find_in_move.Goals as goal

pub returns-in-None-clause-why : goal.returns-in-None-clause-why
returns-in-None-clause-why c =
    let m = c.args.machine.now in
    let p = c.args.plan.now in
    let q = with_points c.args.points.now p in
    off-ok ⊥ ⊥ (IsOffByItself m c.args.now None q) (IsOffMove m c.args.now p q) (λ none. none) (λ a b. inr) _ c.find_in_plan.result
    (subst (λ x. IfOk c.find_in_plan.result (λ found. IfSome found (IsOff ⊥ (IsOffByItself m c.args.now None x)))) c.with_points-moved.ensures c.find_in_plan.ensures.why)

pub returns-in-None-clause-breaks : goal.returns-in-None-clause-breaks
returns-in-None-clause-breaks c =
    let m = c.args.machine.now in
    let p = c.args.plan.now in
    let q = with_points c.args.points.now p in
    ok-some-by (IsKeptPlan m c.args.now None q → ⊥) (IsKeptPlan m c.args.now None q → KeepsPoints p q → ⊥) c.find_in_plan.result (λ breaks kept keeps. breaks kept)
    (subst (λ x. IfOk c.find_in_plan.result (λ found. IfSome found (λ reason. IsKeptPlan m c.args.now None x → ⊥))) c.with_points-moved.ensures c.find_in_plan.ensures.breaks)
