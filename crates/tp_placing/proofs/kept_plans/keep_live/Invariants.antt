use Rattle.std.proofs.Common.{◌≡◌, ◌≤◌, ◌++◌, drop, filter, vec_capacity}
use Rattle.tp_schedule.specs.LivePlans.{is_live}
use Rattle.tp_placing.proofs.kept_plans.keep_live.Given as goal

abbrev pub invariant-loop-at : goal.invariant-loop-at
invariant-loop-at l = record {
  all : l.plans.items ++ filter (is_live l.machine l.now) (drop l.at l.schedule.plans) ≡ filter (is_live l.machine l.now) l.schedule.plans;
  space : vec_capacity l.fn.plans ≤ vec_capacity l.plans;
}
