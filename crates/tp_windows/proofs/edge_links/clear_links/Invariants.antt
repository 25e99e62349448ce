use Rattle.std.proofs.Common.{◌≡◌, []}
use Rattle.tp_windows.specs.Links.{AreHeads}
use Rattle.tp_windows.proofs.edge_links.clear_links.Given as goal

abbrev pub invariant-points : goal.invariant-points
invariant-points l = record {
  links : l.links.items ≡ [];
  heads : AreHeads l.links.items l.heads.items;
}
