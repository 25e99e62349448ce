use Rattle.std.proofs.Common.{◌+◌, ◌-◌, ◌≤◌, vec_len}
use Rattle.tp_outside.specs.Outside.{IsCounted}
use Rattle.tp_outside.proofs.Parts.{LeavesAfter}
use Rattle.tp_outside.proofs.transfer.read_all.Given as goal

abbrev pub invariant-pieces : goal.invariant-pieces
invariant-pieces g l = record {
  fits : vec_len l.text ≤ l.limit + 1;
  counted : IsCounted (g.S.Source.faults l.initial.source) (g.S.Source.faults l.source);
  left : LeavesAfter l.text.items (g.S.Source.left l.initial.source) (g.S.Source.left l.source);
}

abbrev pub decreases-pieces : goal.decreases-pieces
decreases-pieces g l = l.limit + 1 - vec_len l.text
