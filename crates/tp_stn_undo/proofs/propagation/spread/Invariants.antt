use Rattle.std.proofs.Common.{◌≤◌, length, slice_index}
use Rattle.tp_base.specs.Grows.{AreWithin}
use Rattle.tp_stn_undo.specs.States.{times_of, edges_of}
use Rattle.tp_stn_undo.specs.Propagation.{StatesRise, LeadsBack, KeptFrom, Reached, weight}
use Rattle.tp_stn_undo.specs.Flags.{AreBelow}
use Rattle.tp_stn_undo.specs.CauseTraces.{AreZeros}
use Rattle.tp_stn_undo.specs.WorkingRoom.{KeepsSizes}
use Rattle.tp_stn_undo.proofs.propagation.spread.Given as goal

abbrev pub invariant-points : goal.invariant-points
invariant-points l = record {
  back : LeadsBack l.links l.fn.states l.states l.fn.working.changes.entries l.working.changes.entries;
  rises : StatesRise l.links l.fn.states l.states;
  below : AreWithin l.caps (times_of l.states);
  sizes : KeepsSizes l.fn.working l.working;
  waiting : AreBelow (length l.fn.states) l.working.waiting.points;
  reached : Reached l.links l.point l.left;
  kept : KeptFrom (edges_of l.links) (slice_index (times_of l.states)) l.working.waiting.flags l.point l.left;
  zeros : AreZeros l.working.places.items;
}

abbrev pub decreases-points : goal.decreases-points
decreases-points l = weight l.caps l.states l.working.waiting

abbrev pub invariant-edges : goal.invariant-edges
invariant-edges l = record {
  back : LeadsBack l.links l.fn.states l.states l.fn.working.changes.entries l.working.changes.entries;
  rises : StatesRise l.links l.fn.states l.states;
  below : AreWithin l.caps (times_of l.states);
  sizes : KeepsSizes l.fn.working l.working;
  waiting : AreBelow (length l.fn.states) l.working.waiting.points;
  reached : Reached l.links l.point l.left;
  kept : KeptFrom (edges_of l.links) (slice_index (times_of l.states)) l.working.waiting.flags l.point l.left;
  less : weight l.caps l.states l.working.waiting ≤ weight l.caps l.initial.states l.initial.working.waiting;
  zeros : AreZeros l.working.places.items;
}

abbrev pub decreases-edges : goal.decreases-edges
decreases-edges l = l.left
