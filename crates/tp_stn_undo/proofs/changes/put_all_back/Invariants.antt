use Rattle.std.proofs.Common.{◌≡◌, ◌≤◌, length, take}
use Rattle.tp_stn_undo.specs.Saved.{restored}
use Rattle.tp_stn_undo.proofs.changes.put_all_back.Given as goal

abbrev pub invariant-back : goal.invariant-back
invariant-back l = record {
  within : l.left ≤ length l.entries;
  len : length l.states ≡ length l.initial.states;
  states : restored (take l.left l.entries) l.states ≡ restored l.entries l.initial.states;
}

abbrev pub decreases-back : goal.decreases-back
decreases-back l = l.left
