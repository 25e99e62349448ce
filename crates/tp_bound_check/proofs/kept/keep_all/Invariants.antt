use Rattle.std.proofs.Common.{◌≡◌, take}
use Rattle.tp_bound_laws.specs.Claims.{live_part}
use Rattle.tp_bound_check.proofs.kept.keep_all.Given as goal

abbrev pub invariant-plans : goal.invariant-plans
invariant-plans l = l.kept.items ≡ live_part l.machine l.ask (take l.at l.schedule.plans)
