use Rattle.std.proofs.Common.{◌≡◌, length, map}
use Rattle.std.specs.List.{flat_map}
use Rattle.toml.specs.View.{view, table_view}
use Rattle.tp_compose.specs.Racks.{join_entries, put_all}
use Rattle.tp_compose.proofs.end_rules.put_joins.Given as goal

abbrev pub invariant-joins : goal.invariant-joins
invariant-joins l =
    put_all (flat_map join_entries (map view l.rest)) (table_view l.firsts)
    ≡ put_all (flat_map join_entries (map view l.joins)) (table_view l.fn.firsts)

abbrev pub decreases-joins : goal.decreases-joins
decreases-joins l = length l.rest
