use Rattle.std.proofs.Common.{take}
use Rattle.tp_stock.proofs.CountFacts.{Counted}
use Rattle.tp_stock.proofs.taken.count_taken.Given as goal

abbrev pub invariant-plans : goal.invariant-plans
invariant-plans l = Counted l.machine l.counts (take l.at l.schedule.plans)
