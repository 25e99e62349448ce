use Rattle.std.proofs.Common.{◌≡◌, ◌++◌, take}
use Rattle.std.specs.List.{All, flat_map}
use Rattle.tp_bounds.specs.Lines.{IsRow, row_text}
use Rattle.tp_bounds.proofs.tree_printer.put_rows.Given as goal

abbrev pub invariant-loop-row : goal.invariant-loop-row
invariant-loop-row l = record {
  written : l.out.items ≡ l.fn.out.items ++ flat_map row_text (take l.row-index l.rows);
  spelled : All IsRow (take l.row-index l.rows);
}
