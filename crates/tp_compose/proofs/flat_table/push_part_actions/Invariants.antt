use Rattle.std.proofs.Common.{◌≡◌, ◌++◌, length, map}
use Rattle.toml.specs.View.{view, table_view}
use Rattle.tp_compose.specs.Flat.{flat_action}
use Rattle.tp_compose.proofs.flat_table.push_part_actions.Given as goal

abbrev pub invariant-actions : goal.invariant-actions
invariant-actions l =
    map view l.array.items ++ map (flat_action (table_view l.own) (table_view l.firsts) l.part) (map view l.rest)
    ≡ map view l.fn.array.items ++ map (flat_action (table_view l.own) (table_view l.firsts) l.part) (map view l.actions)

abbrev pub decreases-actions : goal.decreases-actions
decreases-actions l = length l.rest
