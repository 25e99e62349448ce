use Rattle.std.proofs.Common.{◌≡◌, ◌++◌, length, map}
use Rattle.serde_json.specs.View.{view}
use Rattle.tp_snapshot.specs.Written.{stock_data}
use Rattle.tp_snapshot.proofs.moments.stock_value.Given as goal

abbrev pub invariant-stock : goal.invariant-stock
invariant-stock l = map view l.array.items ++ map stock_data l.rest ≡ map stock_data l.fn.stock

abbrev pub decreases-stock : goal.decreases-stock
decreases-stock l = length l.rest
