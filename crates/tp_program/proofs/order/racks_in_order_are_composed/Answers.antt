use Rattle.tp_program.proofs.InOrderFacts.{no_rack_is_refused}
use Rattle.tp_program.proofs.order.racks_in_order_are_composed.Goals as goal

pub returns : goal.returns
returns c = no_rack_is_refused
