use Rattle.std.proofs.Common.{◌≡◌, length}
use Rattle.tp_snapshot.specs.WaitingCopies.{wait_of}
use Rattle.tp_snapshot.proofs.Seen.{LeftToRead}
use Rattle.tp_snapshot.proofs.waiting_copies.waiting_in.Given as goal

abbrev pub invariant-loop-value : goal.invariant-loop-value
invariant-loop-value l = record {
  reads : LeftToRead (wait_of l.names.keys) l.waiting l.value-index l.values;
  many : length l.waiting ≡ l.value-index;
}
