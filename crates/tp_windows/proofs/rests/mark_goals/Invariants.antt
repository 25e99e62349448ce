use Rattle.std.proofs.Common.{◌≡◌, ℕ, ◌<◌, Some}
use Rattle.tp_routes.specs.Numbers.{state_at}
use Rattle.tp_routes.specs.Tables.{sum_at}
use Rattle.tp_schedule.specs.Routes.{IsGoalState}
use Rattle.tp_windows.proofs.rests.mark_goals.Given as goal

abbrev pub invariant-states : goal.invariant-states
invariant-states l = (n : ℕ) → n < l.number → IsGoalState l.machine l.ask.want l.ask.goal (state_at n) → sum_at l.rests n ≡ Some 0
