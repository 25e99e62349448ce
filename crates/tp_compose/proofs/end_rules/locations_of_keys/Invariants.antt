use Rattle.std.proofs.Common.{◌≡◌, ◌++◌, map}
use Rattle.toml.specs.View.{view, members_view, table_view}
use Rattle.tp_machine_text.specs.Words.{text_of, keys_of}
use Rattle.tp_compose.specs.Racks.{location_by}
use Rattle.tp_compose.proofs.end_rules.locations_of_keys.Given as goal

abbrev pub invariant-entries : goal.invariant-entries
invariant-entries l =
    map text_of (map view l.locations.items) ++ map (location_by (table_view l.own) (table_view l.firsts)) (keys_of (members_view l.key-iterator)) ≡ map (location_by (table_view l.own) (table_view l.firsts)) (keys_of (table_view l.table))
