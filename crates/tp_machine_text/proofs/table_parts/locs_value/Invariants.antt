use Rattle.std.proofs.Common.{◌≡◌, ◌++◌, true, length, map}
use Rattle.std.specs.List.{list_all}
use Rattle.toml.specs.Data.{string}
use Rattle.toml.specs.View.{view}
use Rattle.tp_machine_text.specs.Printed.{is_location, loc_names}
use Rattle.tp_machine_text.proofs.table_parts.locs_value.Given as goal

abbrev pub invariant-locs : goal.invariant-locs
invariant-locs l = record {
  known : list_all (is_location (length l.names)) l.rest ≡ true;
  whole : map view l.array.items ++ map string (loc_names l.names l.rest) ≡ map string (loc_names l.names l.locs);
}

abbrev pub decreases-locs : goal.decreases-locs
decreases-locs l = length l.rest
