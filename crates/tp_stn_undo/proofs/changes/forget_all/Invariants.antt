use Rattle.std.proofs.Common.{◌≡◌, ◌≤◌, length, take}
use Rattle.tp_stn_undo.specs.Flags.{AreHeld, points_in}
use Rattle.tp_stn_undo.proofs.changes.forget_all.Given as goal

abbrev pub invariant-back : goal.invariant-back
invariant-back l = record {
  within : l.left ≤ length l.entries;
  held : AreHeld l.noted (points_in (take l.left l.entries));
  len : length l.noted ≡ length l.initial.noted;
}

abbrev pub decreases-back : goal.decreases-back
decreases-back l = l.left
