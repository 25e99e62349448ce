use Rattle.std.proofs.Common.{◌≡◌, ◌++◌, map}
use Rattle.toml.specs.Data.{string}
use Rattle.toml.specs.View.{view, members_view, table_view}
use Rattle.tp_machine_text.specs.Words.{keys_of}
use Rattle.tp_compose.proofs.flat_table.table_keys_value.Given as goal

abbrev pub invariant-entries : goal.invariant-entries
invariant-entries l =
    map view l.array.items ++ map string (keys_of (members_view l.key-iterator)) ≡ map string (keys_of (table_view l.table))
