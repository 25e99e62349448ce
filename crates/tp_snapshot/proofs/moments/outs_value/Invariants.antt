use Rattle.std.proofs.Common.{◌≡◌, ◌++◌, drop, map}
use Rattle.serde_json.specs.Data.{string}
use Rattle.serde_json.specs.View.{view}
use Rattle.tp_snapshot.specs.Written.{out_names}
use Rattle.tp_snapshot.proofs.moments.outs_value.Given as goal

abbrev pub invariant-modules : goal.invariant-modules
invariant-modules l = map view l.array.items ++ map string (out_names l.outs l.at (drop l.at l.modules)) ≡ map string (out_names l.outs 0 l.modules)
