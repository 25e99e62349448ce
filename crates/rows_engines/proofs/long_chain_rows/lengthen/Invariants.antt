use Rattle.std.proofs.Common.{◌≡◌, ◌≤◌, ◌+◌, length}
use Rattle.rows_engines.proofs.long_chain_rows.lengthen.Given as goal

abbrev pub invariant-edges : goal.invariant-edges
invariant-edges g l = record {
  points : length (g.N.Network.reading.net l.net).lows ≡ 16642;
  edges : length (g.N.Network.reading.net l.net).edges ≤ 16642 + l.more;
  past : (g.N.Network.reading.past l.net) ≡ (g.N.Network.reading.past l.initial.net);
  max_edges : (g.N.Network.reading.max_edges l.net) ≡ (g.N.Network.reading.max_edges l.initial.net);
  max_marks : (g.N.Network.reading.max_marks l.net) ≡ (g.N.Network.reading.max_marks l.initial.net);
}
