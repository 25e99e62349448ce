-- A move of the clock keeps the plans.
use Rattle.std.proofs.Common.{◌≤◌, arith}
use Rattle.tp_schedule.specs.LivePlans.{live_count}
use Rattle.tp_schedule.specs.PlannerAnswers.{CanPlanOn}
use Rattle.tp_event_rules.specs.StateInvariants.{open_count}
use Rattle.tp_event_rules.specs.Laws.{ClockKeepsPlans}
use Rattle.tp_event_rules.proofs.MovedCounts.{live-clock, open-clock, clear-clock}
use Rattle.tp_event_rules.proofs.PlanOnFacts.{CanPlanOn-clock}

pub plans-clock : ClockKeepsPlans
plans-clock machine to s low high keeps =
    let can : CanPlanOn machine s.now s.plans = record { now_at_most = omega arith; legal = keeps.legal; floors = keeps.floors; horizon = keeps.horizon } in
    let moved = CanPlanOn-clock machine s.now to s.plans low high can in
    record {
      legal = moved.legal;
      floors = moved.floors;
      horizon = moved.horizon;
      few_live =
          let few : live_count machine s.now s.plans ≤ 256 = keeps.few_live in
          let fewer = live-clock machine to s low in omega arith;
      few_open =
          let few : open_count s ≤ 4352 = keeps.few_open in
          let fewer = open-clock machine to s low in omega arith;
      clear = clear-clock machine to s low keeps.clear;
    }
