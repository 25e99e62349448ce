use Rattle.std.proofs.Common.{◌≡◌, ◌+◌, length, map}
use Rattle.toml.specs.View.{view, table_view}
use Rattle.tp_machine_text.specs.Words.{data_of}
use Rattle.tp_machine_text.specs.Slips.{first_in}
use Rattle.tp_machine_text.specs.MachineSlips.{amount}
use Rattle.tp_machine_text.proofs.looks.all_amounts.Given as goal

abbrev pub invariant-values : goal.invariant-values
invariant-values l = record {
  counted : l.number + length l.value-iterator ≡ length (data_of (table_view l.members));
  looked : first_in (amount (table_view l.table) l.key l.want) l.number (map view l.value-iterator) ≡ first_in (amount (table_view l.table) l.key l.want) 0 (data_of (table_view l.members));
}
