use Rattle.std.proofs.Common.{◌≡◌, ◌≤◌, ◌-◌, length}
use Rattle.tp_base.proofs.TraceFacts.{IsWayBack}
use Rattle.tp_stn_undo.specs.States.{edges_of, causes_of}
use Rattle.tp_stn_undo.proofs.cause_trace.write_causes.Given as goal

abbrev pub invariant-back : goal.invariant-back
invariant-back l = record {
  way : IsWayBack (causes_of (edges_of l.links) l.states) l.fn.from.0 l.into.items l.at.0;
  capacity : l.into.capacity ≡ l.fn.into.capacity;
  fits : length l.into.items ≤ l.into.capacity;
}

abbrev pub decreases-back : goal.decreases-back
decreases-back l = length l.states - length l.into.items
