use Rattle.std.proofs.Common.{◌≡◌, ◌++◌, length, map}
use Rattle.toml.specs.View.{view}
use Rattle.tp_machine_text.specs.Words.{text_of}
use Rattle.tp_compose.proofs.end_rules.push_texts.Given as goal

abbrev pub invariant-values : goal.invariant-values
invariant-values l =
    map text_of (map view l.texts.items) ++ map text_of (map view l.rest) ≡ map text_of (map view l.fn.texts.items) ++ map text_of (map view l.values)

abbrev pub decreases-values : goal.decreases-values
decreases-values l = length l.rest
