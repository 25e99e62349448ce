use Rattle.std.proofs.Common.{◌≡◌, ◌≤◌, ◌++◌, drop, take, filter, length, vec_capacity}
use Rattle.tp_schedule.specs.LivePlans.{is_live}
use Rattle.tp_placing.proofs.live_match.follow_live.Given as goal

abbrev pub invariant-loop-at : goal.invariant-loop-at
invariant-loop-at l = record {
  all : filter (is_live l.machine l.now) (take l.seen l.plans.items) ++ filter (is_live l.machine l.now) (drop l.at l.schedule.plans) ≡ filter (is_live l.machine l.now) l.schedule.plans;
  within : l.seen ≤ length l.plans.items;
  kept : take (length l.fn.plans.items) l.plans.items ≡ l.fn.plans.items;
  more : length l.fn.plans.items ≤ length l.plans.items;
  space : vec_capacity l.fn.plans ≤ vec_capacity l.plans;
}
