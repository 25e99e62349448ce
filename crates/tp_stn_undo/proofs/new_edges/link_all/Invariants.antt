use Rattle.std.proofs.Common.{◌≡◌, length, take, vec_capacity}
use Rattle.tp_stn_undo.specs.Marks.{AreLinks}
use Rattle.tp_stn_undo.specs.Flags.{AreBelow}
use Rattle.tp_stn_undo.specs.AddedEdges.{AreLinkedAfter, AllWait}
use Rattle.tp_stn_undo.proofs.new_edges.link_all.Given as goal

abbrev pub invariant-each : goal.invariant-each
invariant-each l = record {
  added : AreLinkedAfter l.initial.links.items l.links.items (take l.edge-index l.edges);
  linked : AreLinks l.links.items l.heads (length l.initial.heads);
  wait : AllWait (take l.edge-index l.edges) l.initial.waiting.flags l.waiting.flags;
  below : AreBelow (length l.initial.heads) l.initial.waiting.points → AreBelow (length l.initial.heads) l.waiting.points;
  waits : length l.waiting.flags ≡ length l.initial.waiting.flags;
  capacity : vec_capacity l.links ≡ vec_capacity l.initial.links;
}
