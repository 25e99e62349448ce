use Rattle.std.proofs.Common.{◌≡◌, ◌+◌, ◌≤◌, ◌++◌, length}
use Rattle.tp_chart.specs.Rows.{resources_from}
use Rattle.tp_chart.proofs.row.add_resources.Given as goal

abbrev pub decreases-resources : goal.decreases-resources
decreases-resources l = length l.rest

abbrev pub invariant-resources : goal.invariant-resources
invariant-resources l = record {
  so_far : l.rows.items ++ resources_from l.at l.number l.rest ≡ l.fn.rows.items ++ resources_from 0 l.number l.resources;
  counted : l.at + length l.rest ≤ length l.resources;
}
