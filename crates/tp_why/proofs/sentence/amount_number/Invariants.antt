use Rattle.std.proofs.Common.{◌≡◌, map}
use Rattle.std.specs.Prelude.{slice_get}
use Rattle.toml.specs.View.{table_view, view}
use Rattle.tp_machine_text.specs.Words.{data_of}
use Rattle.tp_why.proofs.sentence.amount_number.Given as goal

abbrev pub invariant-values : goal.invariant-values
invariant-values l = slice_get (map view l.value-iterator) l.left ≡ slice_get (data_of (table_view l.table)) l.number
