use Rattle.rows_engines.proofs.LaidWays.{laid-marked, laid-back}
use Rattle.rows_engines.proofs.laid_ways.bound_with.Goals as goal

pub lay_next-requires-clause-laid : goal.lay_next-requires-clause-laid
lay_next-requires-clause-laid g c =
    laid-marked g.N.Network.reading g.N.Undo.untouched c.marks_keep_boards.ensures.mark c.args.board.now c.mark-mark.new.self c.args.machine.now c.args.ask.now c.args.way.first c.args.way.many
    c.mark-mark.ensures.content c.mark-mark.ensures.untouched c.mark-mark.ensures.past c.requires.laid

pub returns : goal.returns
returns g c =
    laid-back g.N.Network.reading g.N.Undo.untouched c.marks_keep_boards.ensures.back c.args.board.now c.mark-mark.new.self c.lay_next.new.board c.undo_to.new.self c.args.machine.now c.args.ask.now c.args.way.first c.args.way.many c.mark-mark.result.0
    c.requires.laid c.mark-mark.ensures.untouched c.mark-mark.ensures.past c.mark-mark.ensures.number c.lay_next.ensures.past c.lay_next.ensures.same c.in_ok-lay_next.ensures.laid.stands
    c.undo_to.ensures.content c.undo_to.ensures.untouched c.undo_to.ensures.past
