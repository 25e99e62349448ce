use Rattle.std.proofs.Common.{◌≡◌, ◌≤◌, length, take, drop, vec_capacity}
use Rattle.tp_stn_core.specs.Saved.{restored, relinked}
use Rattle.tp_stn_core.proofs.saved_low.put_back.Given as goal

abbrev pub invariant-back : goal.invariant-back
invariant-back l = record {
  saved : l.saved.items ≡ take (length l.saved.items) l.initial.saved.items;
  to : l.to ≤ length l.saved.items;
  lows : restored (drop l.to l.saved.items) l.lows ≡ restored (drop l.to l.initial.saved.items) l.initial.lows;
  newest : relinked (drop l.to l.saved.items) l.newest ≡ relinked (drop l.to l.initial.saved.items) l.initial.newest;
  capacity : vec_capacity l.saved ≡ vec_capacity l.initial.saved;
}

abbrev pub decreases-back : goal.decreases-back
decreases-back l = length l.saved.items
