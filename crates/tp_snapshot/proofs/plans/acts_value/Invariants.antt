use Rattle.std.proofs.Common.{◌≡◌, ◌++◌, true, length, map}
use Rattle.std.specs.List.{list_all}
use Rattle.serde_json.specs.View.{view}
use Rattle.tp_snapshot.specs.Written.{act_data, is_action}
use Rattle.tp_snapshot.proofs.plans.acts_value.Given as goal

abbrev pub invariant-acts : goal.invariant-acts
invariant-acts l = record {
  known : list_all (is_action l.machine) l.rest ≡ true;
  whole : map view l.array.items ++ map (act_data l.machine) l.rest ≡ map (act_data l.machine) l.fn.acts;
}

abbrev pub decreases-acts : goal.decreases-acts
decreases-acts l = length l.rest
