-- The sorted holds are the order.
use Rattle.std.proofs.Common.{◌≡◌, ap}
use Rattle.tp_schedule.proofs.OrderFacts.{sorted-order}
use Rattle.tp_schedule.proofs.schedule.Schedule.order_of.Goals as goal

pub returns : goal.returns
returns c =
    let order = sorted-order c.args.machine.now c.args.self.now.plans c.args.resource.0 c.requires.legal in
    let plans : c.as_slice.result.now ≡ c.args.self.now.plans = rw c.as_slice.ensures.value (ap (λ s. s.plans) c.self.view_is) in
    rw (← order) (rw plans at c.holds_by_time.ensures)
