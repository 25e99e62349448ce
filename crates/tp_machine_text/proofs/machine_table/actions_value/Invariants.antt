use Rattle.std.proofs.Common.{◌≡◌, ◌++◌, true, length, map}
use Rattle.std.specs.List.{list_all}
use Rattle.toml.specs.View.{view}
use Rattle.tp_machine_text.specs.Printed.{is_known, resource_names, action_data}
use Rattle.tp_machine_text.proofs.machine_table.actions_value.Given as goal

abbrev pub invariant-actions : goal.invariant-actions
invariant-actions l = record {
  known : list_all (is_known (length l.locations) (length l.modules) (length l.resources)) l.rest ≡ true;
  whole : map view l.array.items ++ map (action_data l.locations l.modules (resource_names l.resources)) l.rest ≡ map (action_data l.locations l.modules (resource_names l.resources)) l.fn.actions;
}

abbrev pub decreases-actions : goal.decreases-actions
decreases-actions l = length l.rest
