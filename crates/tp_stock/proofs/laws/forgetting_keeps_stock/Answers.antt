use Rattle.tp_stock.proofs.StockFacts.{keeps-stock}
use Rattle.tp_stock.proofs.laws.forgetting_keeps_stock.Goals as goal

pub returns : goal.returns
returns c = keeps-stock
