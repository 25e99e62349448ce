use Rattle.std.proofs.Common.{◌∙◌, ap}
use Rattle.tp_bound_check.specs.Founds.{found_in}
use Rattle.tp_bound_check.proofs.orders.CheckScene.kept_found.Goals as goal

pub returns : goal.returns
returns c = c.found.ensures.found ∙ ap (found_in c.args.start) c.kept_order.ensures
