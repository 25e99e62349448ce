use Rattle.std.proofs.Common.{◌≡◌, ◌++◌, ◌+◌, length, map}
use Rattle.toml.specs.View.{view}
use Rattle.tp_machine_text.specs.Words.{text_of}
use Rattle.tp_machine_text.specs.TheMachine.{loc_of}
use Rattle.tp_machine_text.proofs.table_values.locs_of.Given as goal

abbrev pub invariant-values : goal.invariant-values
invariant-values l = record {
  counted : length l.locs + length l.rest ≡ length l.values;
  whole : l.locs ++ map (loc_of (map text_of (map view l.locations))) (map text_of (map view l.rest)) ≡ map (loc_of (map text_of (map view l.locations))) (map text_of (map view l.values));
}

abbrev pub decreases-values : goal.decreases-values
decreases-values l = length l.rest
