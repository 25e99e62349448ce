use Rattle.tp_stock.proofs.StockFacts.{keeps-empties}
use Rattle.tp_stock.proofs.laws.forgetting_keeps_empties.Goals as goal

pub returns : goal.returns
returns c = keeps-empties
