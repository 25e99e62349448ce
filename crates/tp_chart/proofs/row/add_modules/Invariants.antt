use Rattle.std.proofs.Common.{◌≡◌, ◌++◌}
use Rattle.tp_chart.specs.Rows.{module_rows_below}
use Rattle.tp_chart.proofs.row.add_modules.Given as goal

abbrev pub invariant-modules : goal.invariant-modules
invariant-modules l = l.rows.items ≡ l.fn.rows.items ++ module_rows_below l.first l.machine l.outages l.number
