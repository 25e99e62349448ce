use Rattle.std.proofs.Common.{◌≡◌, ◌++◌, length, map}
use Rattle.toml.specs.View.{view}
use Rattle.tp_compose.specs.Flat.{flat_hold}
use Rattle.tp_compose.proofs.flat_table.holds_value.Given as goal

abbrev pub invariant-holds : goal.invariant-holds
invariant-holds l =
    map view l.array.items ++ map (flat_hold l.part) (map view l.rest) ≡ map (flat_hold l.part) (map view l.holds)

abbrev pub decreases-holds : goal.decreases-holds
decreases-holds l = length l.rest
