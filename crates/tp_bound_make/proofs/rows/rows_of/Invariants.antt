use Rattle.std.proofs.Common.{◌≡◌}
use Rattle.tp_bound_make.specs.RoomRows.{rows_below}
use Rattle.tp_bound_make.proofs.rows.rows_of.Given as goal

abbrev pub invariant-numbers : goal.invariant-numbers
invariant-numbers l = l.rows ≡ rows_below l.machine l.rooms.sums l.number
