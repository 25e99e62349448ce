use Rattle.std.proofs.Common.{◌≡◌, ◌≤◌, length}
use Rattle.rows_engines.proofs.long_chain_rows.lay_chain.Given as goal

abbrev pub invariant-chain : goal.invariant-chain
invariant-chain g l = record {
  points : length (g.N.Network.reading.net l.net).lows ≡ l.number;
  edges : length (g.N.Network.reading.net l.net).edges ≤ l.number;
  past : (g.N.Network.reading.past l.net) ≡ (g.N.Network.reading.past l.initial.net);
  max_points : (g.N.Network.reading.max_points l.net) ≡ (g.N.Network.reading.max_points l.initial.net);
  max_edges : (g.N.Network.reading.max_edges l.net) ≡ (g.N.Network.reading.max_edges l.initial.net);
  max_marks : (g.N.Network.reading.max_marks l.net) ≡ (g.N.Network.reading.max_marks l.initial.net);
}
