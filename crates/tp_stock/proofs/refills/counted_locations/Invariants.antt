use Rattle.std.proofs.Common.{take}
use Rattle.tp_stock.proofs.CountedFacts.{Marked}
use Rattle.tp_stock.proofs.refills.counted_locations.Given as goal

abbrev pub invariant-feeders : goal.invariant-feeders
invariant-feeders l = Marked (take l.feeder-index l.feeder-items) l.counted
