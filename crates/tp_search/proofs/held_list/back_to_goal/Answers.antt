-- The board is taken back to its mark at the goal, or the goal is opened anew.
use Rattle.std.proofs.Common.{None, Some, [], sym, subst, ◌∙◌}
use Rattle.tp_schedule.specs.Choices.{IsOpen, going}
use Rattle.tp_placing.specs.Boards.{BoardValue}
use Rattle.tp_search.specs.HeldLists.{IsLaidSince, IsOver}
use Rattle.tp_search.proofs.HoldFacts.{over-asked, over-plans, since-more}
use Rattle.tp_search.proofs.RootFacts.{base-undone, goal-undone, root-known}
use Rattle.tp_search.proofs.held_list.back_to_goal.Goals as goal
use Rattle.tp_search.proofs.held_list.back_to_goal.Goals.{In-Some}

-- the board has a mark at the goal
rooted : (g : _) (c : In-Some g) (b : BoardValue g.row.N.Denot) → IsOver g.N.Network.reading b c.args.board.now c.args.problem.machine.now c.args.problem.ask.now (Some c.args.held) → IsLaidSince g.N.Network.reading b c.args.board.now c.args.problem.machine.now c.args.problem.ask.now c.args.held.base.0 (Some (record { mark = c.in-Some.mark; goal = c.args.goal }))
rooted g c b over = subst (IsLaidSince g.N.Network.reading b c.args.board.now c.args.problem.machine.now c.args.problem.ask.now c.args.held.base.0) c.in-Some.ensures over

pub undo_to-requires : goal.undo_to-requires
undo_to-requires g c = root-known g.N.Network.reading c.requires.over.0 c.args.board.now c.args.problem.machine.now c.args.problem.ask.now c.args.held.base.0 (record { mark = c.in-Some.mark; goal = c.args.goal }) (rooted g (goal.at.undo_to-requires g c).In-Some c.requires.over.0 c.requires.over.3)

pub returns-in-Some-clause-laid : goal.returns-in-Some-clause-laid
returns-in-Some-clause-laid g c =
    let u = c.undo_to.ensures in
    goal-undone g.N.Network.reading g.N.Undo.untouched c.marks_keep_boards.ensures.back c.requires.over.0 c.args.board.now c.undo_to.new.self c.args.problem.machine.now c.args.problem.ask.now c.args.held.base.0 (record { mark = c.in-Some.mark; goal = c.args.goal }) (rooted g (goal.at.returns-in-Some-clause-laid g c).In-Some c.requires.over.0 c.requires.over.3)
    (record { content_then = u.content; past_less = u.past; untouched_same = u.untouched; room_same = u.capacity }) (over-asked g.N.Network.reading c.requires.over.0 c.args.board.now c.args.problem.machine.now c.args.problem.ask.now (Some c.args.held) c.requires.over.1 c.requires.over.3)

pub returns-in-Some-clause-since : goal.returns-in-Some-clause-since
returns-in-Some-clause-since g c b ready over =
    let u = c.undo_to.ensures in
    base-undone g.N.Network.reading g.N.Undo.untouched c.marks_keep_boards.ensures.back b c.args.board.now c.undo_to.new.self c.args.problem.machine.now c.args.problem.ask.now c.args.held.base.0 (record { mark = c.in-Some.mark; goal = c.args.goal }) (rooted g (goal.at.returns-in-Some-clause-since g c).In-Some b over)
    (record { content_then = u.content; past_less = u.past; untouched_same = u.untouched; room_same = u.capacity })

pub mark_anew-base-requires : goal.mark_anew-base-requires
mark_anew-base-requires g c = record { over = (c.requires.over.0, c.args.problem.machine.now, c.args.problem.ask.now, c.requires.over.2, c.requires.over.3) }

pub follow_goal-requires-clause-ready : goal.follow_goal-requires-clause-ready
follow_goal-requires-clause-ready g c = c.mark_anew-base.ensures.ready c.requires.over.0 c.args.problem.machine.now c.args.problem.ask.now c.requires.over.1 c.requires.over.3

pub follow_goal-requires-clause-opens : goal.follow_goal-requires-clause-opens
follow_goal-requires-clause-opens g c =
    let same = (c.mark_anew-base.ensures.since c.requires.over.0 c.args.problem.machine.now c.args.problem.ask.now c.requires.over.1 c.requires.over.3).loaded.plans ∙ sym (over-plans g.N.Network.reading c.requires.over.0 c.args.board.now c.args.problem.machine.now c.args.problem.ask.now (Some c.args.held) c.requires.over.3) in
    subst (λ ps. IsOpen c.args.problem.machine.now ps c.args.problem.ask.now (going c.args.goal [])) (sym same) c.requires.opens

pub returns-clause-since : goal.returns-clause-since
returns-clause-since g c b ready over =
    since-more g.N.Network.reading b c.mark_anew-base.new.board c.args.problem.machine.now c.args.problem.ask.now c.mark_anew-base.result.0 None (c.mark_anew-base.ensures.since b c.args.problem.machine.now c.args.problem.ask.now ready over) c.follow_goal.new.board c.follow_goal.ensures.same c.follow_goal.ensures.laid.stands
