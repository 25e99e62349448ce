use Rattle.tp_program.proofs.FarmsInOrderFacts.{no_farm_is_refused}
use Rattle.tp_program.proofs.order.farms_in_order_are_answered.Goals as goal

pub returns : goal.returns
returns c = no_farm_is_refused
