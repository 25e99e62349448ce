use Rattle.std.proofs.Common.{◌≡◌, ◌+◌, length, map}
use Rattle.toml.specs.View.{view, table_view}
use Rattle.tp_machine_text.specs.HoldRules.{holds}
use Rattle.tp_machine_text.specs.Slips.{first_in}
use Rattle.tp_machine_text.specs.MachineSlips.{hold_of}
use Rattle.tp_machine_text.proofs.hold_slips.all_holds.Given as goal

abbrev pub invariant-holds : goal.invariant-holds
invariant-holds l = record {
  counted : l.number + length (map view l.rest) ≡ length (holds (view l.action));
  looked : first_in (hold_of (table_view l.table) l.rule (view l.action)) l.number (map view l.rest) ≡ first_in (hold_of (table_view l.table) l.rule (view l.action)) 0 (holds (view l.action));
}

abbrev pub decreases-holds : goal.decreases-holds
decreases-holds l = length l.rest
