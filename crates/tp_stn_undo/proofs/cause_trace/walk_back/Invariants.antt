use Rattle.std.proofs.Common.{◌≤◌, ◌-◌, length, vec_capacity}
use Rattle.tp_base.proofs.TraceFacts.{IsWayBack}
use Rattle.tp_base.proofs.WalkFacts.{AreMarked}
use Rattle.tp_stn_undo.specs.States.{edges_of, causes_of}
use Rattle.tp_stn_undo.proofs.cause_trace.walk_back.Given as goal

abbrev pub invariant-back : goal.invariant-back
invariant-back l = record {
  way : IsWayBack (causes_of (edges_of l.links) l.states) l.fn.from.0 l.path.items l.at.0;
  marked : AreMarked (length l.places) l.places l.path.items;
  path_kept : vec_capacity l.fn.path ≤ vec_capacity l.path;
}

abbrev pub decreases-back : goal.decreases-back
decreases-back l = length l.states - length l.path.items
