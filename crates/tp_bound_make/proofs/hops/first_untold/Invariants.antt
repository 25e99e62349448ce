use Rattle.std.proofs.Common.{All, take}
use Rattle.tp_bound_make.specs.TellableReasons.{IsTold, tell}
use Rattle.tp_bound_make.proofs.hops.first_untold.Given as goal

-- the edges so far are named
abbrev pub invariant-edges : goal.invariant-edges
invariant-edges g l = All (IsTold (tell l.machine l.board.plans l.board.causes)) (take l.at l.edges)
