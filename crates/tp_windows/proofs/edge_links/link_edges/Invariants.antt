use Rattle.std.proofs.Common.{◌≡◌, take, All}
use Rattle.tp_base.specs.Grows.{IsKnown}
use Rattle.tp_windows.specs.Links.{AreFalling, AreHeads, edges_of}
use Rattle.tp_windows.proofs.edge_links.link_edges.Given as goal

abbrev pub invariant-edges : goal.invariant-edges
invariant-edges g l = record {
  edges : edges_of l.linked.links.items ≡ take l.number (g.N.Network.reading.net l.net).edges;
  heads : AreHeads l.linked.links.items l.linked.heads.items;
  falling : AreFalling l.linked.links.items;
  known : All (IsKnown l.points) (take l.number (g.N.Network.reading.net l.net).edges);
}
