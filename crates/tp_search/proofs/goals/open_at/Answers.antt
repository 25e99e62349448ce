-- The goal's list is laid on the board since a mark, with its bound, or is not open.
use Rattle.std.proofs.Common.{[], None, IsSomeAnd, refl, sym, subst, ◌∙◌}
use Rattle.tp_schedule.specs.Choices.{IsBound, IsOpen, going}
use Rattle.tp_constraints.specs.Suffixes.{with_goal}
use Rattle.tp_placing.specs.Calls.{IsSameLoad}
use Rattle.tp_placing.specs.LoadedBoard.{Stands}
use Rattle.tp_search.specs.StoredLists.{HasList, IsSameButSteps, IsWayTo}
use Rattle.tp_search.specs.HeldLists.{IsLaidSince}
use Rattle.tp_search.proofs.BoardSteps.{IsMarked, back-itself, load-of, load-trans}
use Rattle.tp_search.proofs.GoalSteps.{goal-bound, goal-refused, goal-shut}
use Rattle.tp_search.proofs.HoldFacts.{since-known, since-mark, since-more, since-undone}
use Rattle.tp_search.proofs.goals.open_at.Goals as goal
use Rattle.tp_search.proofs.goals.open_at.Goals.{After-mark-base, After-open_goal}
use Rattle.tp_constraints.proofs.WaySteps.{goal-way}

stands : (g : _) (c : After-mark-base g) → Stands g.N.Network.reading c.mark-base.new.self c.args.problem.machine.now
stands g c = (let m = c.mark-base.ensures in c.marks_keep_boards.ensures.mark c.args.board.now c.mark-base.new.self c.args.problem.machine.now m.content m.untouched m.past c.requires.ready.stands)

load : (g : _) (c : After-open_goal g) → IsSameLoad c.args.board.now c.open_goal.new.self
load g c = load-trans g.N.Network.reading c.args.board.now c.mark-base.new.self c.open_goal.new.self (load-of g.N.Network.reading g.N.Undo.untouched c.args.board.now c.mark-base.new.self c.mark-base.ensures.untouched) c.open_goal.ensures.loaded

-- nothing but the goal was laid since the mark
since : (g : _) (c : After-open_goal g) → IsLaidSince g.N.Network.reading c.args.board.now c.open_goal.new.self c.args.problem.machine.now c.args.problem.ask.now c.mark-base.result.0 None
since g c =
    let r = g.N.Network.reading in
    let m = c.mark-base.ensures in
    let p = c.open_goal.ensures in
    let set : IsMarked r g.N.Undo.untouched c.args.board.now c.mark-base.new.self c.mark-base.result.0 = record { number = m.number; past_more = m.past; content_same = m.content; untouched_same = m.untouched; room_same = m.capacity } in
    let stood = c.marks_keep_boards.ensures.mark c.args.board.now c.mark-base.new.self c.args.problem.machine.now m.content m.untouched m.past c.requires.ready.stands in
    let more : IsSameButSteps r c.mark-base.new.self c.open_goal.new.self = record { same_past = p.past; loaded = p.loaded; marks = p.marks } in
    since-more r c.args.board.now c.mark-base.new.self c.args.problem.machine.now c.args.problem.ask.now c.mark-base.result.0 None
    (since-mark r g.N.Undo.untouched c.marks_keep_boards.ensures.mark c.args.board.now c.args.board.now c.mark-base.new.self c.args.problem.machine.now c.args.problem.ask.now c.mark-base.result.0 c.requires.ready (back-itself r c.args.board.now c.args.problem.machine.now) set)
    c.open_goal.new.self more (p.stands c.args.problem.machine.now stood)

pub returns-in_default-clause-none : goal.returns-in_default-clause-none
returns-in_default-clause-none g c = goal-shut c.args.problem.machine.now c.args.board.now.plans c.args.problem.ask.now c.args.state c.in_default.ensures.none

pub returns-in_default-clause-back : goal.returns-in_default-clause-back
returns-in_default-clause-back g c none = back-itself g.N.Network.reading c.args.board.now c.args.problem.machine.now

pub open_goal-requires-clause-stands : goal.open_goal-requires-clause-stands
open_goal-requires-clause-stands g c = (c.args.problem.machine.now, stands g (goal.at.open_goal-requires-clause-stands g c).After-mark-base)

pub end_bound-bound-requires-clause-stands : goal.end_bound-bound-requires-clause-stands
end_bound-bound-requires-clause-stands g c = (c.args.problem.machine.now, c.open_goal.ensures.stands c.args.problem.machine.now (stands g (goal.at.end_bound-bound-requires-clause-stands g c).After-mark-base))

pub returns-in-Ok-clause-bound : goal.returns-in-Ok-clause-bound
returns-in-Ok-clause-bound g c =
    let k = goal.at.returns-in-Ok-clause-bound g c in
    let at = c.in-Some.ensures.some in
    subst (λ s. IsBound c.args.problem.machine.now c.args.board.now.plans c.args.problem.ask.now (going s []) c.end_bound-bound.result) at.same
    (goal-bound c.args.problem.machine.now c.args.board.now c.open_goal.new.self c.args.problem.ask.now c.in-Some.goal.state c.in-Some.goal.room c.end_bound-bound.result c.requires.ready.asked (load g k.After-open_goal) at.is_goal at.is_room c.requires.kept c.in-Ok.ensures.suffix
    (c.end_bound-bound.ensures c.args.problem.machine.now (c.open_goal.ensures.stands c.args.problem.machine.now (stands g k.After-mark-base))))

pub returns-in-Ok-clause-laid : goal.returns-in-Ok-clause-laid
returns-in-Ok-clause-laid g c =
    let k = goal.at.returns-in-Ok-clause-laid g c in
    let at = c.in-Some.ensures.some in
    let after = c.open_goal.new.self in
    let way : IsWayTo c.args.problem.machine.now after.plans c.args.problem.ask.now c.in-Some.goal.state (going c.in-Some.goal.state []) (with_goal c.in-Some.goal.room) = record {
      way = goal-way c.args.problem.machine.now after.plans c.args.problem.ask.now c.in-Some.goal.state c.in-Some.goal.room at.is_goal at.is_room c.requires.kept;
      placed = tt;
      same = refl;
    } in
    subst (λ s. HasList g.N.Network.reading after c.args.problem.machine.now c.args.problem.ask.now s (going s [])) at.same (record {
      stands = c.open_goal.ensures.stands c.args.problem.machine.now (stands g k.After-mark-base);
      asked = (load g k.After-open_goal).ask ∙ c.requires.ready.asked;
      way = subst (λ o. IsSomeAnd o (IsWayTo c.args.problem.machine.now after.plans c.args.problem.ask.now c.in-Some.goal.state (going c.in-Some.goal.state []))) (sym c.in-Ok.ensures.suffix) way;
    })

pub returns-in-Ok-clause-since : goal.returns-in-Ok-clause-since
returns-in-Ok-clause-since g c = since g (goal.at.returns-in-Ok-clause-since g c).After-open_goal

pub undo_to-requires : goal.undo_to-requires
undo_to-requires g c = since-known g.N.Network.reading c.args.board.now c.open_goal.new.self c.args.problem.machine.now c.args.problem.ask.now c.mark-base.result.0 None (since g (goal.at.undo_to-requires g c).After-open_goal)

pub returns-in-Err-clause-none : goal.returns-in-Err-clause-none
returns-in-Err-clause-none g c =
    let k = goal.at.returns-in-Err-clause-none g c in
    let at = c.in-Some.ensures.some in
    subst (λ s. ¬ IsOpen c.args.problem.machine.now c.args.board.now.plans c.args.problem.ask.now (going s [])) at.same
    (goal-refused c.args.problem.machine.now c.args.board.now c.mark-base.new.self c.args.problem.ask.now c.in-Some.goal.state c.in-Some.goal.room c.requires.ready.asked (load-of g.N.Network.reading g.N.Undo.untouched c.args.board.now c.mark-base.new.self c.mark-base.ensures.untouched) at.is_room (c.in-Err.ensures.late c.args.problem.machine.now (stands g k.After-mark-base)))

pub returns-in-Err-clause-back : goal.returns-in-Err-clause-back
returns-in-Err-clause-back g c none =
    let u = c.undo_to.ensures in
    since-undone g.N.Network.reading g.N.Undo.untouched c.marks_keep_boards.ensures.back c.args.board.now c.open_goal.new.self c.undo_to.new.self c.args.problem.machine.now c.args.problem.ask.now c.mark-base.result.0 None (since g (goal.at.returns-in-Err-clause-back g c).After-open_goal)
    (record { content_then = u.content; past_less = u.past; untouched_same = u.untouched; room_same = u.capacity })
