use Rattle.std.proofs.Common.{ap, arith, length}
use Rattle.tp_windows.proofs.RowCuts.{length-rows}
use Rattle.tp_windows.proofs.kept_rows.KeptRows.row.Goals as goal

pub cut-requires-clause-there : goal.cut-requires-clause-there
cut-requires-clause-there c =
    let there = rw (← c.self.view_is) at c.requires in
    let rows = length-rows c.self.inside.holds.items 0 c.self.inside.ends.items in
    let same = ap length c.deref-2.ensures.value in
    omega (arith, there, rows, same)
