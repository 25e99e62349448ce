use Rattle.std.proofs.Common.{◌≡◌, ◌++◌, true, length, map}
use Rattle.std.specs.List.{list_all}
use Rattle.serde_json.specs.View.{view}
use Rattle.tp_snapshot.specs.Written.{is_plan_known, plan_data}
use Rattle.tp_snapshot.proofs.plans.plans_value.Given as goal

abbrev pub invariant-plans : goal.invariant-plans
invariant-plans l = record {
  known : list_all (is_plan_known l.machine) l.rest ≡ true;
  whole : map view l.array.items ++ map (plan_data l.machine) l.rest ≡ map (plan_data l.machine) l.fn.plans;
}

abbrev pub decreases-plans : goal.decreases-plans
decreases-plans l = length l.rest
