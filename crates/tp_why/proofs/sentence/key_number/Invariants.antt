use Rattle.std.proofs.Common.{◌≡◌, map, string_bytes}
use Rattle.toml.specs.View.{table_view}
use Rattle.tp_machine_text.specs.Words.{keys_of}
use Rattle.tp_why.specs.Sentences.{text_number}
use Rattle.tp_why.proofs.sentence.key_number.Given as goal

abbrev pub invariant-keys : goal.invariant-keys
invariant-keys l = text_number l.left (map string_bytes l.key-iterator) ≡ text_number l.number (keys_of (table_view l.table))
