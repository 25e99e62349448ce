use Rattle.std.proofs.Common.{None}
use Rattle.tp_search.proofs.HoldFacts.{since-known, since-undone}
use Rattle.tp_search.proofs.goals.try_goal.Goals as goal

pub undo_to-requires : goal.undo_to-requires
undo_to-requires g c = since-known g.N.Network.reading c.args.board.now c.open_at.new.board c.args.problem.machine.now c.args.problem.ask.now c.in-Some.opened.base.0 None c.in-Some.ensures.since

pub returns-clause-back : goal.returns-clause-back
returns-clause-back g c =
    let u = c.undo_to.ensures in
    since-undone g.N.Network.reading g.N.Undo.untouched c.marks_keep_boards.ensures.back c.args.board.now c.open_at.new.board c.undo_to.new.self c.args.problem.machine.now c.args.problem.ask.now c.in-Some.opened.base.0 None c.in-Some.ensures.since
    (record { content_then = u.content; past_less = u.past; untouched_same = u.untouched; room_same = u.capacity })
