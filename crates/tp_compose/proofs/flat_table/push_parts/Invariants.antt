use Rattle.std.proofs.Common.{◌≡◌, ◌++◌, map, option_map}
use Rattle.std.specs.List.{flat_map}
use Rattle.toml.specs.View.{view, members_view, table_view}
use Rattle.tp_machine_text.specs.Words.{members_of}
use Rattle.tp_compose.specs.Racks.{typed}
use Rattle.tp_compose.specs.Flat.{part_locations}
use Rattle.tp_compose.proofs.flat_table.push_parts.Given as goal

abbrev pub invariant-entries : goal.invariant-entries
invariant-entries l =
    map view l.array.items ++ flat_map (part_locations (table_view l.firsts)) (typed (members_of (option_map (λ m. table_view m.now) l.types)) (members_view l.part-iterator))
    ≡ map view l.fn.array.items ++ flat_map (part_locations (table_view l.firsts)) (typed (members_of (option_map (λ m. table_view m.now) l.types)) (table_view l.parts))
