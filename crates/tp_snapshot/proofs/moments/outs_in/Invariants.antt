use Rattle.std.proofs.Common.{◌≡◌, ◌≤◌, drop, length, map}
use Rattle.serde_json.specs.View.{view}
use Rattle.tp_snapshot.specs.Moments.{none_out, out_from}
use Rattle.tp_snapshot.proofs.moments.outs_in.Given as goal

abbrev pub invariant-modules : goal.invariant-modules
invariant-modules l = record {
  reads : out_from l.at (drop l.at l.modules) (map view (drop l.taken l.values)) l.outs ≡ out_from 0 l.modules (map view l.values) none_out;
  within : l.taken ≤ length l.values;
}
