use Rattle.std.proofs.Common.{◌≡◌, ◌++◌, ◌+◌, length, map}
use Rattle.tp_soak.specs.Kept.{IsDrawn}
use Rattle.tp_soak.specs.Machines.{engine_resource}
use Rattle.tp_soak.proofs.resources.resources.Given as goal

abbrev pub invariant-engines : goal.invariant-engines
invariant-engines l = record {
  drawn : IsDrawn l.rest;
  counted : length l.items + length l.rest ≡ length l.engines;
  whole : l.items ++ map engine_resource l.rest ≡ map engine_resource l.engines;
}

abbrev pub decreases-engines : goal.decreases-engines
decreases-engines l = length l.rest
