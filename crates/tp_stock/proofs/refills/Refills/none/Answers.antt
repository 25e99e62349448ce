use Rattle.std.proofs.Common.{refl}
use Rattle.tp_stock.specs.Stock.{by_location}
use Rattle.tp_stock.proofs.refills.Refills.none.Goals as goal

pub returns : goal.returns
unfolding by_location
returns c = refl
