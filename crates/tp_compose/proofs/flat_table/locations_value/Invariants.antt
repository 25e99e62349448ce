use Rattle.std.proofs.Common.{◌≡◌, ◌++◌, length, map}
use Rattle.toml.specs.Data.{string}
use Rattle.toml.specs.View.{view, table_view}
use Rattle.tp_machine_text.specs.Words.{text_of}
use Rattle.tp_compose.specs.Racks.{location_by}
use Rattle.tp_compose.proofs.flat_table.locations_value.Given as goal

abbrev pub invariant-ends : goal.invariant-ends
invariant-ends l =
    map view l.array.items ++ map string (map (location_by (table_view l.own) (table_view l.firsts)) (map text_of (map view l.rest))) ≡ map string (map (location_by (table_view l.own) (table_view l.firsts)) (map text_of (map view l.ends)))

abbrev pub decreases-ends : goal.decreases-ends
decreases-ends l = length l.rest
