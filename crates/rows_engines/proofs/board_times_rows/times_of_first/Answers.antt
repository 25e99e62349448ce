-- The plan that stands first is live, and so the board holds it.
use Rattle.std.proofs.Common.{arith, ap, sym, true, ◌≡◌, ◌≤◌, ◌∙◌, length, Some}
use Rattle.tp_schedule.specs.LivePlans.{is_live}
use Rattle.tp_schedule.specs.Plans.{plan_of}
use Rattle.tp_schedule.proofs.CopyFacts.{plan_of-itself}
use Rattle.tp_constraints.proofs.Lists.{contains-get}
use Rattle.tp_placing.proofs.LivePart.{plan-some}
use Rattle.tp_placing.proofs.StandFacts.{and-some}
use Rattle.rows_engines.proofs.board_times_rows.times_of_first.Goals as goal

pub time_of-requires-clause-there : goal.time_of-requires-clause-there
time_of-requires-clause-there g c =
    let plans = c.args.schedule.now.plans in
    let p = c.plan_at-plan.result.now in
    let live : is_live c.args.machine.now c.args.ask.now.now p ≡ true = sym c.is_plan_live.ensures ∙ c.if-not-is_plan_live.false in
    let there = plan_of-itself plans p c.requires.can_ask.plan_on.legal.in_order (contains-get plans 0 p c.plan_at-plan.ensures.plan) in
    let held : plan_of p.sheet c.load.new.self.plans ≡ Some p = ap (plan_of p.sheet) c.load.ensures.plans ∙ plan-some (is_live c.args.machine.now c.args.ask.now.now) p.sheet plans p there live in
    let acts : length p.acts ≡ 3 = omega (arith, c.len-2.ensures.len, c.if-len-ne3.false) in
    let below = c.points-test.true in
    and-some (plan_of p.sheet c.load.new.self.plans) p (λ q. c.points.at ≤ length q.acts) held (omega (arith, acts, below))
