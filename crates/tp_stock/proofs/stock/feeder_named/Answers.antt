use Rattle.std.proofs.Common.{rules}
use Rattle.tp_stock.proofs.StockFacts.{named-known}
use Rattle.tp_stock.proofs.stock.feeder_named.Goals as goal

pub returns-clause-known : goal.returns-clause-known
returns-clause-known c = named-known c.args.machine.now _ c.args.name.now (search rules)
