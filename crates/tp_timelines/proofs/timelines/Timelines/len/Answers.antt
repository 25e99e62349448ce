use Rattle.std.proofs.Common.{◌<◌, ◌≤◌, length, ap, arith}
use Rattle.tp_timelines.specs.Orders.{numbers_of, Orders}
use Rattle.tp_timelines.proofs.InsertFacts.{length-order}
use Rattle.tp_timelines.proofs.VectorFacts.{length-numbers, order_at}
use Rattle.tp_timelines.proofs.timelines.Timelines.len.Goals as goal
use Rattle.tp_timelines.proofs.timelines.Timelines.len.Goals.{After-len}

within : (c : After-len) → c.len.result ≤ c.self.inside.hold_capacity
within c =
    let a = c.self.inside in
    let vs = a.orders.items in
    let r = c.args.resource.0 in
    let v = ap (λ (o : Orders). length o.orders) c.self.view_is in
    let n = length-numbers vs in
    let k = c.requires.known in
    let known : r < length vs = omega arith in
    let order = order_at vs r c.index.result.now known c.index.ensures in
    omega (arith, ap length order, c.index.result.now.ok.0, c.len.ensures, length-order (numbers_of vs) r (omega arith), c.self.invariant.all, c.self.invariant.holds)

pub overflow_cast-result : goal.overflow_cast-result
overflow_cast-result c = omega (arith, within c, c.self.invariant.fits)

pub returns-clause-within : goal.returns-clause-within
returns-clause-within c = omega (arith, within c, ap (λ (o : Orders). o.hold_capacity) c.self.view_is)
