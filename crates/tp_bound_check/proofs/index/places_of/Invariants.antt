use Rattle.std.proofs.Common.{◌≡◌, ◌≤◌, length, drop}
use Rattle.std.specs.HashMap.{get}
use Rattle.std.specs.List.{position_from}
use Rattle.tp_bound_check.proofs.index.places_of.Given as goal

abbrev pub invariant-keys : goal.invariant-keys
invariant-keys g l = record {
  within : l.at ≤ length l.keys;
  placed : (key : g.row.K.Denot) → get g.K.PartialEq.eq l.places key ≡ position_from (λ k. g.K.PartialEq.eq k key) l.at (drop l.at l.keys);
}

abbrev pub decreases-keys : goal.decreases-keys
decreases-keys g l = l.at
