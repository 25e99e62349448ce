use Rattle.std.proofs.Common.{arith}
use Rattle.rows_engines.proofs.LaidWays.{can_lay, laid-more}
use Rattle.rows_engines.proofs.laid_ways.lay_next.Goals as goal

pub put-requires-clause-ready : goal.put-requires-clause-ready
put-requires-clause-ready g c =
    can_lay g.N.Network.reading c.args.board.now c.args.machine.now c.args.ask.now c.args.way.first c.args.way.many c.requires.laid (let few = c.requires.few in let kept = c.requires.kept in omega arith)

pub returns-clause-laid : goal.returns-clause-laid
returns-clause-laid g c =
    laid-more g.N.Network.reading c.args.board.now c.put.new.board c.args.machine.now c.args.ask.now c.args.choice.0 c.args.choice.1 c.args.choice.2 c.args.way.many c.args.way.first c.in_ok-before.before
    c.requires.laid c.put.ensures.stands c.put.ensures.same c.in_ok-before.ensures c.in_ok-put.ensures.put
