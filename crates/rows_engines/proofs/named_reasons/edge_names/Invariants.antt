use Rattle.std.proofs.Common.{◌≡◌, Some, map, take}
use Rattle.rows_engines.specs.NamedReasons.{edge_name}
use Rattle.rows_engines.proofs.named_reasons.edge_names.Given as goal

abbrev pub invariant-edges : goal.invariant-edges
invariant-edges g l = map Some l.names.items ≡ map (edge_name l.board) (take l.at l.edges)
