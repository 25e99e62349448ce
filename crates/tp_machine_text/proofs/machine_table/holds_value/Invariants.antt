use Rattle.std.proofs.Common.{◌≡◌, ◌++◌, true, length, map}
use Rattle.std.specs.List.{list_all}
use Rattle.toml.specs.View.{view}
use Rattle.tp_machine_text.specs.Printed.{is_of_resource, resource_names, hold_data}
use Rattle.tp_machine_text.proofs.machine_table.holds_value.Given as goal

abbrev pub invariant-holds : goal.invariant-holds
invariant-holds l = record {
  known : list_all (is_of_resource (length l.resources)) l.rest ≡ true;
  whole : map view l.array.items ++ map (hold_data (resource_names l.resources)) l.rest ≡ map (hold_data (resource_names l.resources)) l.fn.holds;
}

abbrev pub decreases-holds : goal.decreases-holds
decreases-holds l = length l.rest
