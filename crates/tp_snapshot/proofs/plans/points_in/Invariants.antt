use Rattle.std.proofs.Common.{◌≡◌, length}
use Rattle.tp_snapshot.specs.Values.{whole_of}
use Rattle.tp_snapshot.proofs.Seen.{LeftToRead}
use Rattle.tp_snapshot.proofs.plans.points_in.Given as goal

abbrev pub invariant-loop-value : goal.invariant-loop-value
invariant-loop-value l = record {
  reads : LeftToRead (whole_of 2000000000) l.points l.value-index l.values;
  many : length l.points ≡ l.value-index;
}
