-- The moves settle the times, or nothing that is reported does.
use Rattle.std.proofs.Common.{ℕ, ℤ, None, inl}
use Rattle.tp_schedule.specs.PlannerAnswers.{IsSettled}
use Rattle.tp_schedule_check.specs.Faults.{IsSettlingFault}
use Rattle.tp_log_planner.specs.TakenAnswers.{DoTellSettled}
use Rattle.tp_log_planner.specs.Breaches.{HasOffMove}
use Rattle.tp_log_planner.specs.ToldMoves.{DoTellMoves, IsMoveOver}
use Rattle.tp_log_planner.proofs.SettleFacts.{settled-moves, settled-taken, settled-too}
use Rattle.tp_log_planner.specs.Reasons.{IsBreach, IsSettlingReason, IsTimesReason}
use Rattle.tp_log_planner.proofs.ReasonFacts.{same-stop, settled-reason, settling-breach, stop-from}
use Rattle.tp_log_planner.proofs.TreeFacts.{denies-from, denies-like}
use Rattle.tp_log_planner.proofs.settled_times.take_settled.Goals as goal

pub returns-in-Err-clause-refused : goal.returns-in-Err-clause-refused
returns-in-Err-clause-refused c =
    denies-from (DoTellMoves c.args.machine.now c.args.now None c.args.schedule.now.plans c.args.items.now) (DoTellSettled c.args.machine.now c.args.schedule.now.plans c.args.now c.args.items.now) c.in-Err.failure
    (settled-moves c.args.machine.now c.args.schedule.now.plans c.args.now c.requires.can.plan_on.legal c.args.items.now c.requires.first) c.in-Err.ensures.refused

pub returns-in-Err-check_settled-clause-refused : goal.returns-in-Err-check_settled-clause-refused
returns-in-Err-check_settled-clause-refused c =
    let after = c.take_all_moves.new.after.plans in
    let P = DoTellSettled c.args.machine.now c.args.schedule.now.plans c.args.now c.args.items.now in
    denies-like P c.in-Err-check_settled.failure c.ahead_of.result c.ahead_of.ensures.stops
    (denies-from (IsSettled c.args.machine.now c.args.now c.args.schedule.now.plans after) P c.in-Err-check_settled.failure
    (settled-too c.args.machine.now c.args.schedule.now.plans c.args.now c.requires.can.plan_on.legal c.args.items.now c.requires.first after c.in-Ok-take_all_moves.taken c.in-Ok-take_all_moves.ensures.moved)
    c.in-Err-check_settled.ensures.refused)

pub returns-clause-told : goal.returns-clause-told
returns-clause-told c =
    settled-taken c.args.machine.now c.args.schedule.now.plans c.args.now c.requires.can.plan_on.legal c.args.items.now c.requires.first c.take_all_moves.new.after.plans c.in-Ok-take_all_moves.taken
    c.in-Ok-take_all_moves.ensures.moved c.in-Ok-take_all_moves.ensures.over c.in-Ok-check_settled.ensures.settled

pub returns-in-Err-clause-why : goal.returns-in-Err-clause-why
returns-in-Err-clause-why c =
    let m = c.args.machine.now in
    let plans = c.args.schedule.now.plans in
    let P : ℕ → ℤ → ℤ → Type 0 = HasOffMove m c.args.now None plans c.args.items.now in
    let items = c.args.items.now in
    stop-from (λ n. IsBreach (IsMoveOver None plans items n) (P n)) (IsSettlingReason m plans c.args.now items) c.in-Err.failure
    (λ n. settling-breach (IsMoveOver None plans items n) (P n) m plans c.args.now items n inl (λ a b. inl)) c.in-Err.ensures.why

pub returns-in-Err-check_settled-clause-why : goal.returns-in-Err-check_settled-clause-why
returns-in-Err-check_settled-clause-why c =
    let m = c.args.machine.now in
    let plans = c.args.schedule.now.plans in
    let after = c.take_all_moves.new.after.plans in
    let T = IsTimesReason (IsSettlingFault m c.args.now plans after) m c.args.now None after in
    stop-from (λ n. T) (IsSettlingReason m plans c.args.now c.args.items.now) c.ahead_of.result
    (settled-reason m plans c.args.now c.args.items.now after c.in-Ok-take_all_moves.taken c.in-Ok-take_all_moves.ensures.moved)
    (same-stop T c.in-Err-check_settled.failure c.ahead_of.result c.ahead_of.ensures.reason c.in-Err-check_settled.ensures.why)
