use Rattle.tp_headline.proofs.ToldOrder.{clock-in_order}
use Rattle.tp_headline.proofs.laws.clock_tells_in_order.Goals as goal

pub returns : goal.returns
returns c = clock-in_order
