use Rattle.std.proofs.Common.{subst, sym}
use Rattle.tp_windows.specs.KeptRows.{HaveOrders}
use Rattle.tp_windows.proofs.halves.seek_still.Goals as goal

pub returns-in-Found-clause-orders : goal.returns-in-Found-clause-orders
returns-in-Found-clause-orders c plans have = subst (λ r. HaveOrders c.args.machine.now plans r.rows) (sym c.try_way-judged.ensures.rows) (c.find_way.ensures.orders plans have)
