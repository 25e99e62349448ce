use Rattle.std.proofs.Common.{◌≡◌, drop, length, map}
use Rattle.serde_json.specs.View.{view}
use Rattle.tp_words.specs.Each.{with_front}
use Rattle.tp_snapshot.specs.Moments.{stock_from}
use Rattle.tp_snapshot.proofs.moments.stock_in.Given as goal

abbrev pub invariant-feeders : goal.invariant-feeders
invariant-feeders l = record {
  reads : with_front l.stock (stock_from (drop l.at l.feeders) (map view (drop l.at l.values))) ≡ stock_from l.feeders (map view l.values);
  many : length l.stock ≡ l.at;
}
