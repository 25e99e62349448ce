use Rattle.std.proofs.Common.{◌≡◌, ◌++◌, length, map}
use Rattle.toml.specs.View.{view}
use Rattle.tp_machine_text.specs.Words.{text_of}
use Rattle.tp_compose.specs.EndRules.{joined}
use Rattle.tp_compose.proofs.end_rules.joined.Given as goal

abbrev pub invariant-joins : goal.invariant-joins
invariant-joins l =
    map text_of (map view l.texts.items) ++ joined (map view l.rest) ≡ joined (map view l.joins)

abbrev pub decreases-joins : goal.decreases-joins
decreases-joins l = length l.rest
