use Rattle.std.proofs.Common.{◌≤◌, length, take, All}
use Rattle.tp_schedule.specs.Spots.{slot_order}
use Rattle.tp_constraints.specs.Numbers.{table_of}
use Rattle.tp_windows.specs.KeptRows.{AddsRow}
use Rattle.tp_windows.specs.Rows.{IsNear}
use Rattle.tp_windows.proofs.kept_rows.add_row.Given as goal

abbrev pub invariant-places : goal.invariant-places
invariant-places g l = record {
  row : AddsRow (table_of l.board.plans) l.fn.holds.items l.holds.items (take l.place (slot_order l.machine l.board.plans l.resource.0));
  near : All IsNear l.holds.items;
  more : length l.fn.holds.items ≤ length l.holds.items;
}
