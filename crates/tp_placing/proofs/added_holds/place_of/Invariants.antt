use Rattle.std.proofs.Common.{◌≤◌, length}
use Rattle.tp_timelines.specs.Orders.{order_on}
use Rattle.tp_placing.proofs.added_holds.place_of.Given as goal

abbrev pub invariant-back : goal.invariant-back
invariant-back l = record {
  within : l.place ≤ length (order_on l.timelines.orders l.resource.0);
}

abbrev pub decreases-back : goal.decreases-back
decreases-back l = l.place
