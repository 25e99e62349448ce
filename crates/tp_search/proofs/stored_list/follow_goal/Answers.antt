-- The goal of an open list has room and times.
use Rattle.tp_search.proofs.FollowGoal.{goal_within, refused-late}
use Rattle.tp_constraints.proofs.WayChildren.{goal-closed, goal-late}
use Rattle.tp_search.proofs.stored_list.follow_goal.Goals as goal

pub room_of-requires-clause-known : goal.room_of-requires-clause-known
room_of-requires-clause-known g c =
    goal_within c.args.problem.machine.now c.args.board.now.plans c.args.problem.ask.now c.args.goal c.requires.posed.origin c.requires.opens

pub unreachable-requires : goal.unreachable-requires
unreachable-requires g c =
    goal-closed c.args.problem.machine.now c.args.board.now.plans c.args.problem.ask.now c.args.goal c.in_default.ensures.none c.requires.opens

pub unreachable-requires-in-Err : goal.unreachable-requires-in-Err
unreachable-requires-in-Err g c =
    let late = refused-late c.args.problem.machine.now c.args.board.now c.args.problem.ask.now _ c.requires.ready.asked (c.in-Err.ensures.late c.args.problem.machine.now c.requires.ready.stands) in
    goal-late c.args.problem.machine.now c.args.board.now.plans c.args.problem.ask.now c.args.goal c.in-Some.room late c.in-Some.ensures.some c.requires.opens
