use Rattle.std.proofs.Common.{◌≡◌, ◌++◌, length, map}
use Rattle.serde_json.specs.View.{view}
use Rattle.tp_snapshot.specs.Written.{whole_data}
use Rattle.tp_snapshot.proofs.plans.points_value.Given as goal

abbrev pub invariant-points : goal.invariant-points
invariant-points l = map view l.array.items ++ map whole_data l.rest ≡ map whole_data l.fn.points

abbrev pub decreases-points : goal.decreases-points
decreases-points l = length l.rest
