use Rattle.std.proofs.Common.{◌==◌, ◌∙◌, ap, find}
use Rattle.tp_machine.specs.declared.parts.Feeder.{Feeder}
use Rattle.tp_stock.proofs.StockFacts.{at-known}
use Rattle.tp_stock.proofs.stock.feeder_at.Goals as goal

pub returns-clause-is : goal.returns-clause-is
returns-clause-is c = c.first_at.ensures ∙ ap (λ fs. find (λ (f : Feeder). f.loc.0 == c.args.loc.0) fs) c.as_slice.ensures

pub returns-clause-known : goal.returns-clause-known
returns-clause-known c = at-known c.args.machine.now _ c.args.loc.0 (returns-clause-is c)
