use Rattle.std.proofs.Common.{length, All}
use Rattle.tp_windows.specs.RowLists.{rows_from}
use Rattle.tp_windows.specs.Rows.{IsNear}
use Rattle.tp_windows.proofs.RowCuts.{IsCutTo}
use Rattle.tp_windows.proofs.RowSlots.{HaveFirstOrders}
use Rattle.tp_windows.proofs.kept_rows.read_rows.Given as goal

abbrev pub invariant-resources : goal.invariant-resources
invariant-resources g l = record {
  rows : HaveFirstOrders l.machine l.board.plans l.number (rows_from l.holds.items 0 l.ends.items);
  cut : IsCutTo 0 l.ends.items (length l.holds.items);
  near : All IsNear l.holds.items;
}
