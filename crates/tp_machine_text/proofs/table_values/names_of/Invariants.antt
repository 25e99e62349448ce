use Rattle.std.proofs.Common.{◌≡◌, ◌++◌, ◌+◌, true, length, map}
use Rattle.std.specs.List.{list_all}
use Rattle.toml.specs.View.{view}
use Rattle.tp_machine_text.specs.Words.{text_of, is_name, are_different}
use Rattle.tp_machine_text.proofs.Fresh.{are_new}
use Rattle.tp_machine_text.proofs.table_values.names_of.Given as goal

abbrev pub invariant-values : goal.invariant-values
invariant-values l = record {
  counted : length l.names + length l.rest ≡ length l.values;
  named : list_all is_name (map view l.rest) ≡ true;
  new : are_new l.names (map text_of (map view l.rest)) ≡ true;
  differ : are_different (map text_of (map view l.rest)) ≡ true;
  whole : l.names ++ map text_of (map view l.rest) ≡ map text_of (map view l.values);
}

abbrev pub decreases-values : goal.decreases-values
decreases-values l = length l.rest
