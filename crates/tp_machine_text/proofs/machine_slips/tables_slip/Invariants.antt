use Rattle.std.proofs.Common.{◌≡◌, ◌+◌, length, map}
use Rattle.toml.specs.View.{view, table_view}
use Rattle.tp_machine_text.specs.Keys.{actions}
use Rattle.tp_machine_text.specs.Slips.{first_in}
use Rattle.tp_machine_text.specs.MachineSlips.{item}
use Rattle.tp_machine_text.specs.declared.slip.Key.TheVariants as key
use Rattle.tp_machine_text.specs.declared.slip.Want.TheVariants as want
use Rattle.tp_machine_text.proofs.machine_slips.tables_slip.Given as goal

abbrev pub invariant-values : goal.invariant-values
invariant-values l = record {
  counted : l.number + length (map view l.rest) ≡ length (actions (table_view l.table));
  looked : first_in (item (table_view l.table) key.Actions want.Table) l.number (map view l.rest) ≡ first_in (item (table_view l.table) key.Actions want.Table) 0 (actions (table_view l.table));
}

abbrev pub decreases-values : goal.decreases-values
decreases-values l = length l.rest
