use Rattle.std.proofs.Common.{◌≡◌}
use Rattle.toml.specs.View.{members_view, table_view}
use Rattle.tp_compose.specs.Racks.{put_all}
use Rattle.tp_compose.specs.Flat.{placed_feeders}
use Rattle.tp_compose.proofs.flat_table.put_feeders.Given as goal

abbrev pub invariant-entries : goal.invariant-entries
invariant-entries l =
    put_all (placed_feeders (table_view l.own) (table_view l.firsts) (members_view l.end-iterator)) (table_view l.placed)
    ≡ put_all (placed_feeders (table_view l.own) (table_view l.firsts) (table_view l.feeders)) (table_view l.fn.placed)
