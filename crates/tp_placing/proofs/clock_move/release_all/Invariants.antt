use Rattle.std.proofs.Common.{◌≡◌, ◌≤◌, length, vec_capacity}
use Rattle.tp_placing.proofs.MovedPlans.{AreFurtherTo}
use Rattle.tp_placing.proofs.clock_move.release_all.Given as goal

abbrev pub invariant-loop-at : goal.invariant-loop-at
invariant-loop-at l = record {
  over : l.over ≤ l.at;
  count : length l.plans.items ≡ length l.fn.plans.items;
  further : AreFurtherTo l.machine l.now l.at l.fn.plans.items l.plans.items;
  space : vec_capacity l.fn.plans ≤ vec_capacity l.plans;
}
