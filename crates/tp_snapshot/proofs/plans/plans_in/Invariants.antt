use Rattle.std.proofs.Common.{◌≡◌, length}
use Rattle.tp_snapshot.specs.Plans.{plan_of}
use Rattle.tp_snapshot.proofs.Seen.{LeftToRead}
use Rattle.tp_snapshot.proofs.plans.plans_in.Given as goal

abbrev pub invariant-loop-value : goal.invariant-loop-value
invariant-loop-value l = record {
  reads : LeftToRead (plan_of l.machine l.now l.jobs) l.plans l.value-index l.values;
  many : length l.plans ≡ l.value-index;
}
