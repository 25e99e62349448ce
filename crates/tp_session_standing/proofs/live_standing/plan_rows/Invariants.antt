use Rattle.std.proofs.Common.{◌≡◌, take}
use Rattle.tp_session_standing.proofs.live_standing.plan_rows.Given as goal

abbrev pub invariant-plans : goal.invariant-plans
invariant-plans l = l.rows ≡ take l.at l.schedule.plans
