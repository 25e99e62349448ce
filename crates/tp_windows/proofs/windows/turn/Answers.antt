use Rattle.std.proofs.Common.{arith, subst, sym, ap, ◌-◌, List}
use Rattle.std.specs.Prelude.{◌≡◌}
use Rattle.tp_constraints.specs.Numbers.{table_of}
use Rattle.tp_windows.specs.Halves.{AreLeft}
use Rattle.tp_windows.specs.Walks.{halves_of, siblings, waiting_at}
use Rattle.tp_windows.specs.declared.ranges.Side.{Side}
use Rattle.tp_windows.proofs.Waiting.{halves_lower}
use Rattle.tp_windows.proofs.windows.turn.Goals as goal

pub returns-in-Closed-clause-turned : goal.returns-in-Closed-clause-turned
returns-in-Closed-clause-turned c plans net limit le known root orders left =
    let machine = c.args.machine.now in
    let ask = c.args.ask.now in
    let table = table_of plans in
    let same : c.look.new.node.path.items ≡ c.args.node.now.path.items = ap (λ p. p.items) c.look.ensures.path in
    let closed = c.in-Closed.ensures.seen plans net limit le known root orders (siblings (halves_of table c.args.node.now.path.items)) left in
    c.close.ensures.gone machine plans ask (subst (λ (p : List Side). AreLeft machine plans ask (siblings (halves_of table p)) (c.args.end - 1)) (sym same) closed)

pub returns-in-Found-clause-turned : goal.returns-in-Found-clause-turned
returns-in-Found-clause-turned c plans net limit le known root orders left =
    let machine = c.args.machine.now in
    let ask = c.args.ask.now in
    let table = table_of plans in
    let less = c.in-Found.ensures.sooner.1 in
    let same : c.look.new.node.path.items ≡ c.args.node.now.path.items = ap (λ p. p.items) c.look.ensures.path in
    let lower = halves_lower machine plans ask (c.args.end - 1) (c.in-Found.sooner - 1) (waiting_at table c.args.node.now.path.items) (omega (arith, less)) left in
    let closed = c.in-Found.ensures.seen plans net limit le known root orders (siblings (halves_of table c.args.node.now.path.items)) lower in
    c.close-in-Found.ensures.gone machine plans ask (subst (λ (p : List Side). AreLeft machine plans ask (siblings (halves_of table p)) (c.in-Found.sooner - 1)) (sym same) closed)

pub returns-in-Split-clause-turned : goal.returns-in-Split-clause-turned
returns-in-Split-clause-turned c plans net limit le known root orders left =
    let machine = c.args.machine.now in
    let ask = c.args.ask.now in
    let same : c.look.new.node.path.items ≡ c.args.node.now.path.items = ap (λ p. p.items) c.look.ensures.path in
    c.split.ensures.turned machine plans ask (subst (λ (p : List Side). AreLeft machine plans ask (waiting_at (table_of plans) p) (c.args.end - 1)) (sym same) left)
