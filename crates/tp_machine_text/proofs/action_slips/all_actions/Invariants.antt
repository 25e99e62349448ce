use Rattle.std.proofs.Common.{◌≡◌, ◌+◌, length, map}
use Rattle.toml.specs.View.{view, table_view}
use Rattle.tp_machine_text.specs.Keys.{actions}
use Rattle.tp_machine_text.specs.Slips.{first_in}
use Rattle.tp_machine_text.specs.MachineSlips.{action_of}
use Rattle.tp_machine_text.proofs.action_slips.all_actions.Given as goal

abbrev pub invariant-actions : goal.invariant-actions
invariant-actions l = record {
  counted : l.number + length (map view l.rest) ≡ length (actions (table_view l.table));
  looked : first_in (action_of (table_view l.table) l.rule) l.number (map view l.rest) ≡ first_in (action_of (table_view l.table) l.rule) 0 (actions (table_view l.table));
}

abbrev pub decreases-actions : goal.decreases-actions
decreases-actions l = length l.rest
