-- The plan is laid since a mark, and taken off where it does not end in time.
use Rattle.std.proofs.Common.{None, ◌∷◌, ap, length, arith}
use Rattle.std.proofs.lemmas.List.{length-append}
use Rattle.tp_placing.specs.Boards.{content_of, past_of}
use Rattle.tp_search.specs.HeldLists.{IsLaidSince}
use Rattle.tp_search.proofs.BoardSteps.{back-itself}
use Rattle.tp_search.proofs.FurtherFacts.{further-back}
use Rattle.tp_search.proofs.HoldFacts.{since-found}
use Rattle.tp_search.proofs.WayFacts.{way-undone}
use Rattle.tp_search.proofs.window_search.seek.Goals as goal
use Rattle.tp_search.proofs.window_search.seek.Goals.{After-mark_anew-base}

pub mark_anew-base-requires : goal.mark_anew-base-requires
mark_anew-base-requires g c = record {
  over = (c.args.board.now, c.args.problem.machine.now, c.args.problem.ask.now, omega (arith, c.requires.marks), back-itself g.N.Network.reading c.args.board.now c.args.problem.machine.now);
}

-- the board was marked
since : (g : _) (c : After-mark_anew-base g) → IsLaidSince g.N.Network.reading c.args.board.now c.mark_anew-base.new.board c.args.problem.machine.now c.args.problem.ask.now c.mark_anew-base.result.0 None
since g c = c.mark_anew-base.ensures.since c.args.board.now c.args.problem.machine.now c.args.problem.ask.now c.requires.ready (back-itself g.N.Network.reading c.args.board.now c.args.problem.machine.now)

pub lay_way-requires-clause-ready : goal.lay_way-requires-clause-ready
lay_way-requires-clause-ready g c = c.mark_anew-base.ensures.ready c.args.board.now c.args.problem.machine.now c.args.problem.ask.now c.requires.ready (back-itself g.N.Network.reading c.args.board.now c.args.problem.machine.now)

pub lay_way-requires-clause-marks : goal.lay_way-requires-clause-marks
lay_way-requires-clause-marks g c =
    let s = since g (goal.at.lay_way-requires-clause-marks g c).After-mark_anew-base in
    omega (arith, c.requires.marks, s.marks, ap length s.past_more, length-append (past_of g.N.Network.reading c.args.board.now) (content_of g.N.Network.reading c.args.board.now ∷ s.kept), ap length s.are_kept)

pub returns-then-lay_way-clause-found : goal.returns-then-lay_way-clause-found
returns-then-lay_way-clause-found g c =
    since-found g.N.Network.reading c.args.board.now c.mark_anew-base.new.board c.lay_way.new.board c.args.problem.machine.now c.args.problem.ask.now c.mark_anew-base.result.0 None c.in-Ended.end
    (since g (goal.at.returns-then-lay_way-clause-found g c).After-mark_anew-base) (c.lay_way.ensures.found c.if-lay_way.true) c.in-Ended.ensures.none

pub undo_to-requires : goal.undo_to-requires
undo_to-requires g c =
    let s = since g (goal.at.undo_to-requires g c).After-mark_anew-base in
    let back = c.lay_way.ensures.back c.if-lay_way.false in
    omega (arith, s.number, ap length back.same_past, ap length s.past_more, length-append (past_of g.N.Network.reading c.args.board.now) (content_of g.N.Network.reading c.args.board.now ∷ s.kept))

pub returns-clause-back : goal.returns-clause-back
returns-clause-back g c none =
    let s = since g (goal.at.returns-clause-back g c).After-mark_anew-base in
    let back = c.lay_way.ensures.back c.if-lay_way.false in
    let u = c.undo_to.ensures in
    way-undone g.N.Network.reading g.N.Undo.untouched c.marks_keep_boards.ensures.back c.args.board.now c.mark_anew-base.new.board c.lay_way.new.board c.undo_to.new.self c.args.problem.machine.now c.args.problem.ask.now c.mark_anew-base.result.0
    s (further-back g.N.Network.reading c.mark_anew-base.new.board c.lay_way.new.board c.args.problem.machine.now back) (back.stands s.stands)
    (record { content_then = u.content; past_less = u.past; untouched_same = u.untouched; room_same = u.capacity })
