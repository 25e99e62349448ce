use Rattle.std.proofs.Common.{◌≡◌, length}
use Rattle.tp_snapshot.specs.Plans.{act_in}
use Rattle.tp_snapshot.proofs.Seen.{LeftToRead}
use Rattle.tp_snapshot.proofs.plans.acts_in.Given as goal

abbrev pub invariant-loop-value : goal.invariant-loop-value
invariant-loop-value l = record {
  reads : LeftToRead (act_in l.machine) l.acts l.value-index l.values;
  many : length l.acts ≡ l.value-index;
}
