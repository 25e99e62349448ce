use Rattle.std.proofs.Common.{◌≡◌, ◌+◌, length, map}
use Rattle.toml.specs.View.{view}
use Rattle.tp_machine_text.specs.Words.{text_of}
use Rattle.tp_machine_text.specs.TheMachine.{place_in}
use Rattle.tp_machine_text.proofs.table_values.place_in.Given as goal

abbrev pub invariant-values : goal.invariant-values
invariant-values l = record {
  counted : l.place + length l.rest ≡ length l.values;
  placed : l.place + place_in (map text_of (map view l.rest)) l.text ≡ place_in (map text_of (map view l.values)) l.text;
}

abbrev pub decreases-values : goal.decreases-values
decreases-values l = length l.rest
