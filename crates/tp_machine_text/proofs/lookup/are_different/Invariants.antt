use Rattle.std.proofs.Common.{◌≡◌, length, map}
use Rattle.toml.specs.View.{view}
use Rattle.tp_machine_text.specs.Words.{are_different, text_of}
use Rattle.tp_machine_text.proofs.lookup.are_different.Given as goal

abbrev pub invariant-values : goal.invariant-values
invariant-values l = are_different (map text_of (map view l.rest)) ≡ are_different (map text_of (map view l.values))

abbrev pub decreases-values : goal.decreases-values
decreases-values l = length l.rest
