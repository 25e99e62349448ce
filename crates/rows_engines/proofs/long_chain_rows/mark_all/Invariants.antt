use Rattle.std.proofs.Common.{◌≡◌, length}
use Rattle.rows_engines.proofs.long_chain_rows.mark_all.Given as goal

abbrev pub invariant-marks : goal.invariant-marks
invariant-marks g l = record {
  points : length (g.N.Network.reading.net l.net).lows ≡ 16642;
  past : length (g.N.Network.reading.past l.net) ≡ l.number;
  marks : (g.N.Network.reading.max_marks l.net) ≡ 330;
}
