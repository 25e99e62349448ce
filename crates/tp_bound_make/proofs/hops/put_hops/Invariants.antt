use Rattle.std.proofs.Common.{◌≡◌, ◌+◌, ◌++◌, ◌≤◌, drop, length}
use Rattle.tp_bound_make.specs.TellableReasons.{tell, told_until}
use Rattle.tp_bound_make.proofs.hops.put_hops.Given as goal

-- with what the other edges tell, the hops are those that they are to be
abbrev pub invariant-edges : goal.invariant-edges
invariant-edges g l = record {
  few : length l.hops ≤ length l.fn.hops + l.at;
  so : l.hops ++ told_until (tell l.machine l.board.plans l.board.causes) (drop l.at l.edges) ≡ l.fn.hops ++ told_until (tell l.machine l.board.plans l.board.causes) l.edges;
}
