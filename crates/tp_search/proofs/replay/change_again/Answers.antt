use Rattle.std.proofs.Common.{subst}
use Rattle.tp_search.specs.Again.{CanMake}
use Rattle.tp_search.proofs.replay.change_again.Goals as goal

pub goal_again-requires : goal.goal_again-requires
goal_again-requires g c = record { can = (c.args.machine.now, subst (λ change. CanMake g.N.Network.reading c.args.board.now c.args.machine.now change c.args.reached) c.in-Goal.is c.requires.can) }
