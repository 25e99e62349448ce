use Rattle.std.proofs.Common.{◌≡◌, ◌+◌, length, map}
use Rattle.toml.specs.View.{view, table_view}
use Rattle.tp_machine_text.specs.Slips.{first_in}
use Rattle.tp_machine_text.specs.MachineSlips.{single_item}
use Rattle.tp_machine_text.proofs.looks.single_items.Given as goal

abbrev pub invariant-values : goal.invariant-values
invariant-values l = record {
  counted : l.number + length l.rest ≡ length l.values;
  looked : first_in (single_item (table_view l.table) l.key l.want) l.number (map view l.rest) ≡ first_in (single_item (table_view l.table) l.key l.want) 0 (map view l.values);
}

abbrev pub decreases-values : goal.decreases-values
decreases-values l = length l.rest
