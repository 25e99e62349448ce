use Rattle.std.proofs.Common.{◌≤◌, ◌-◌, length, vec_capacity}
use Rattle.tp_base.proofs.TraceFacts.{IsWayBack}
use Rattle.tp_base.proofs.WalkFacts.{AreMarked}
use Rattle.tp_base.proofs.cause_chain.trace_causes.Given as goal

abbrev pub invariant-back : goal.invariant-back
invariant-back l = record {
  way : IsWayBack l.causes l.fn.from.0 l.path.items l.at.0;
  marked : AreMarked (length l.causes) l.places.items l.path.items;
  path_kept : vec_capacity l.fn.path ≤ vec_capacity l.path;
  places_kept : vec_capacity l.fn.places ≤ vec_capacity l.places;
}

abbrev pub decreases-back : goal.decreases-back
decreases-back l = length l.causes - length l.path.items
