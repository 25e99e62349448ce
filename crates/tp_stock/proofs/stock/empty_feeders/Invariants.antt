use Rattle.std.proofs.Common.{◌≡◌, filter, take}
use Rattle.std.specs.List.{fold}
use Rattle.tp_schedule.specs.LocationSets.{nowhere, with}
use Rattle.tp_stock.specs.Stock.{is_empty}
use Rattle.tp_stock.proofs.stock.empty_feeders.Given as goal

abbrev pub invariant-feeders : goal.invariant-feeders
invariant-feeders l = l.empty ≡ fold (λ set f. with set f.loc) nowhere (filter (is_empty l.machine l.refills.0 l.schedule.plans) (take l.feeder-index l.feeder-items))
