use Rattle.std.proofs.Common.{subst, sym}
use Rattle.tp_constraints.specs.Numbers.{table_of}
use Rattle.tp_windows.specs.Arrays.{windows_by}
use Rattle.tp_windows.specs.KeptRows.{HaveOrders}
use Rattle.tp_windows.proofs.SeenFacts.{seen_verdict}
use Rattle.tp_windows.proofs.halves.seek.Goals as goal

pub returns-in-Found-clause-orders : goal.returns-in-Found-clause-orders
returns-in-Found-clause-orders c plans have = subst (λ r. HaveOrders c.args.machine.now plans r.rows) (sym c.try_way-judged.ensures.rows) (c.find_way.ensures.orders plans have)

pub returns-in-Found-clause-seen : goal.returns-in-Found-clause-seen
returns-in-Found-clause-seen c plans net known root orders =
    let w = windows_by (table_of plans) c.args.node.now.ranges.lows.items c.args.node.now.ranges.highs.items in
    seen_verdict c.args.machine.now plans c.args.ask.now w c.args.end c.in-Found.from c.verdict.result c.verdict.ensures.from c.verdict.ensures.sooner (c.in-Found.ensures.way plans net known root orders)
