use Rattle.std.proofs.Common.{◌∙◌}
use Rattle.tp_stock.proofs.StockFacts.{forgets}
use Rattle.tp_stock.proofs.refills.Refills.forget.Goals as goal

pub returns : goal.returns
returns c = λ plans stays counted left. c.less.ensures
    ∙ forgets c.args.machine.now c.args.self.now.0 c.counted_locations.result c.args.before.now.0 c.count_taken-after.result.0 plans c.args.left.now.plans stays c.counted_locations.ensures counted c.count_taken-after.ensures left
