use Rattle.std.proofs.Common.{◌-◌}
use Rattle.tp_search.specs.Boards.{IsFurther}
use Rattle.tp_search.specs.Dives.{CanDive}
use Rattle.tp_search.proofs.dives.go_down.Given as goal

-- the board is further, and carries the list that was reached
abbrev pub invariant-down : goal.invariant-down
invariant-down g l = record {
  since : IsFurther g.N.Network.reading l.fn.board l.board;
  carries : CanDive g.N.Network.reading l.board l.problem.machine.now l.problem.ask.now l.reached;
}

-- how many choices more there can be
abbrev pub decreases-down : goal.decreases-down
decreases-down g l = 64 - l.reached.count
