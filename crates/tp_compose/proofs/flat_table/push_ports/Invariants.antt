use Rattle.std.proofs.Common.{◌≡◌, ◌++◌, length, map}
use Rattle.std.specs.List.{flat_map}
use Rattle.toml.specs.View.{view, table_view}
use Rattle.tp_machine_text.specs.Words.{text_of}
use Rattle.tp_compose.specs.Flat.{port_location}
use Rattle.tp_compose.proofs.flat_table.push_ports.Given as goal

abbrev pub invariant-ports : goal.invariant-ports
invariant-ports l =
    map view l.array.items ++ flat_map (port_location (table_view l.firsts) l.part) (map text_of (map view l.rest))
    ≡ map view l.fn.array.items ++ flat_map (port_location (table_view l.firsts) l.part) (map text_of (map view l.ports))

abbrev pub decreases-ports : goal.decreases-ports
decreases-ports l = length l.rest
