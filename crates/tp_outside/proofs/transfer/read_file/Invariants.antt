use Rattle.std.proofs.Common.{◌≡◌, ◌-◌, ◌≤◌, Some, vec_len}
use Rattle.tp_outside.specs.Outside.{Files, IsCounted}
use Rattle.tp_outside.proofs.Parts.{HasPart}
use Rattle.tp_outside.proofs.transfer.read_file.Given as goal

abbrev pub invariant-pieces : goal.invariant-pieces
invariant-pieces g l = record {
  fits : vec_len l.text ≤ l.limit;
  counted : IsCounted (g.H.Shelf.faults l.initial.shelf) (g.H.Shelf.faults l.shelf);
  known : g.H.Shelf.known l.shelf ≡ g.H.Shelf.known l.initial.shelf;
  amiss : (files : Files) → g.H.Shelf.known l.initial.shelf ≡ Some files → g.H.Shelf.amiss l.shelf ≡ g.H.Shelf.amiss l.initial.shelf;
  part : HasPart l.text.items (g.H.Shelf.known l.initial.shelf) l.name;
}

abbrev pub decreases-pieces : goal.decreases-pieces
decreases-pieces g l = l.limit - vec_len l.text
