use Rattle.std.proofs.Common.{◌≡◌, map, take}
use Rattle.toml.specs.Data.{string}
use Rattle.toml.specs.View.{view}
use Rattle.tp_machine_text.proofs.table_parts.names_value.Given as goal

abbrev pub invariant-names : goal.invariant-names
invariant-names l = map view l.array.items ≡ map string (take l.at l.names)
