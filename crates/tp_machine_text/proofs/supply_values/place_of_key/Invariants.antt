use Rattle.std.proofs.Common.{◌≡◌, ◌+◌, length, map, string_bytes}
use Rattle.toml.specs.View.{table_view}
use Rattle.tp_machine_text.specs.Words.{keys_of}
use Rattle.tp_machine_text.specs.TheMachine.{place_in}
use Rattle.tp_machine_text.proofs.supply_values.place_of_key.Given as goal

abbrev pub invariant-keys : goal.invariant-keys
invariant-keys l = record {
  counted : l.place + length l.key-iterator ≡ length (keys_of (table_view l.table));
  placed : l.place + place_in (map string_bytes l.key-iterator) l.text ≡ place_in (keys_of (table_view l.table)) l.text;
}
