use Rattle.std.proofs.Common.{◌≡◌, ◌++◌, ◌∷◌, ◌+◌, length, map}
use Rattle.tp_soak.specs.Kept.{IsDrawn}
use Rattle.tp_soak.specs.Machines.{feed, print}
use Rattle.tp_soak.proofs.actions.actions.Given as goal

abbrev pub invariant-engines : goal.invariant-engines
invariant-engines l = record {
  drawn : IsDrawn l.rest;
  counted : length l.items + length l.rest ≡ length l.engines + 1;
  whole : l.items ++ map print l.rest ≡ feed (length l.engines) ∷ map print l.engines;
}

abbrev pub decreases-engines : goal.decreases-engines
decreases-engines l = length l.rest
