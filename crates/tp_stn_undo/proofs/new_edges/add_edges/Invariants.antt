use Rattle.std.proofs.Common.{◌≡◌, take, vec_capacity}
use Rattle.tp_stn_undo.specs.WorkingRoom.{KeepsSizes}
use Rattle.tp_stn_undo.specs.AddedEdges.{CanAdd, Adds}
use Rattle.tp_stn_undo.proofs.new_edges.add_edges.Given as goal

abbrev pub invariant-each : goal.invariant-each
invariant-each l = record {
  added : Adds (take l.edge-index l.edges) l.caps l.initial.links.items l.links.items l.initial.states l.states l.working.changes.entries;
  ready : CanAdd l.caps l.links.items l.heads l.states l.working;
  sizes : KeepsSizes l.initial.working l.working;
  capacity : vec_capacity l.links ≡ vec_capacity l.initial.links;
}
