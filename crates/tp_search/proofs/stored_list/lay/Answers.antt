-- A stored choice of an open list can be laid.
use Rattle.std.proofs.Common.{◌<◌, ◌∷◌, length, sym, subst}
use Rattle.tp_schedule.specs.Choices.{IsOpen, going, stopping}
use Rattle.tp_placing.specs.Boards.{suffix_of}
use Rattle.tp_placing.specs.LoadedBoard.{choices_of}
use Rattle.tp_search.specs.StoredLists.{HasList}
use Rattle.tp_search.specs.Stored.{choice_with}
use Rattle.tp_search.proofs.FollowSteps.{act_within, action-in_time, child-more, child-stop, more-laid, some-before, stop-in_time, stop-laid, waits-more}
use Rattle.tp_search.proofs.stored_list.lay.Goals as goal
use Rattle.tp_search.proofs.stored_list.lay.Goals.{In-Some, In_default}

-- the list with the stop, or with the action more, is open
stopping-open : (g : _) (c : In_default g) → IsOpen c.args.problem.machine.now c.args.board.now.plans c.args.problem.ask.now (stopping c.args.choice.now.goal (choices_of (suffix_of c.args.board.now)).choices)
stopping-open g c =
    let choices = (choices_of (suffix_of c.args.board.now)).choices in
    subst (IsOpen c.args.problem.machine.now c.args.board.now.plans c.args.problem.ask.now) (child-stop c.args.problem.machine.now c.args.choice.now.goal choices c.args.choice.now c.in_default.is) c.requires.opens

more-open : (g : _) (c : In-Some g) → IsOpen c.args.problem.machine.now c.args.board.now.plans c.args.problem.ask.now
    (going c.args.choice.now.goal (choice_with c.args.problem.machine.now c.in-Some.act c.args.choice.now.places ∷ (choices_of (suffix_of c.args.board.now)).choices))
more-open g c =
    let choices = (choices_of (suffix_of c.args.board.now)).choices in
    subst (IsOpen c.args.problem.machine.now c.args.board.now.plans c.args.problem.ask.now) (child-more c.args.problem.machine.now c.args.choice.now.goal choices c.args.choice.now c.in-Some.act c.in-Some.is) c.requires.opens

known : (g : _) (c : In-Some g) → c.in-Some.act.0 < length c.args.problem.machine.now.actions
known g c = act_within c.args.problem.machine.now c.args.board.now.plans c.args.problem.ask.now c.args.choice.now.goal (choice_with c.args.problem.machine.now c.in-Some.act c.args.choice.now.places) _ (more-open g c)

pub returns-in-Ok-clause-laid : goal.returns-in-Ok-clause-laid
returns-in-Ok-clause-laid g c =
    let choices = (choices_of (suffix_of c.args.board.now)).choices in
    let child = child-stop c.args.problem.machine.now c.args.choice.now.goal choices c.args.choice.now c.in_default.is in
    let o = stopping-open g (goal.at.returns-in-Ok-clause-laid g c).In_default in
    subst (HasList g.N.Network.reading c.stop.new.self c.args.problem.machine.now c.args.problem.ask.now c.args.first) (sym child)
    (stop-laid g.N.Network.reading c.args.problem.machine.now c.args.board.now c.args.problem.ask.now c.args.choice.now.goal c.args.first choices c.requires.laid o c.stop.new.self
    (c.in-Ok.ensures.stands c.args.problem.machine.now c.requires.laid.stands) c.in-Ok.ensures.suffix c.in-Ok.ensures.loaded)

pub unreachable-requires : goal.unreachable-requires
unreachable-requires g c =
    let choices = (choices_of (suffix_of c.args.board.now)).choices in
    let o = stopping-open g (goal.at.unreachable-requires g c).In_default in
    stop-in_time g.N.Network.reading c.args.problem.machine.now c.args.board.now c.args.problem.ask.now c.args.choice.now.goal c.args.first choices c.requires.laid o
    (c.in-Err.ensures.late c.args.problem.machine.now c.requires.laid.stands)

pub state_before-requires-clause-known : goal.state_before-requires-clause-known
state_before-requires-clause-known g c = known g (goal.at.state_before-requires-clause-known g c).In-Some

pub unreachable-requires-in_default-state_before : goal.unreachable-requires-in_default-state_before
unreachable-requires-in_default-state_before g c =
    let choices = (choices_of (suffix_of c.args.board.now)).choices in
    let o = more-open g (goal.at.unreachable-requires-in_default-state_before g c).In-Some in
    some-before g.N.Network.reading c.args.problem.machine.now c.args.board.now c.args.problem.ask.now c.args.choice.now.goal c.args.first choices c.requires.laid
    c.in-Some.act c.args.choice.now.places o c.in_default-state_before.ensures.none

pub open_action-requires-clause-known : goal.open_action-requires-clause-known
open_action-requires-clause-known g c = known g (goal.at.open_action-requires-clause-known g c).In-Some

pub unreachable-requires-in-Err-open_action : goal.unreachable-requires-in-Err-open_action
unreachable-requires-in-Err-open_action g c =
    let choices = (choices_of (suffix_of c.args.board.now)).choices in
    let o = more-open g (goal.at.unreachable-requires-in-Err-open_action g c).In-Some in
    action-in_time g.N.Network.reading c.args.problem.machine.now c.args.board.now c.args.problem.ask.now c.args.choice.now.goal c.args.first choices c.requires.laid
    c.in-Some.act c.args.choice.now.places o c.in-Some-state_before.before c.in-Some-state_before.ensures.some c.in-Err-open_action.ensures.late

pub place_all-requires-clause-known : goal.place_all-requires-clause-known
place_all-requires-clause-known g c = known g (goal.at.place_all-requires-clause-known g c).In-Some

pub place_all-requires-clause-waits : goal.place_all-requires-clause-waits
place_all-requires-clause-waits g c =
    let choices = (choices_of (suffix_of c.args.board.now)).choices in
    let o = more-open g (goal.at.place_all-requires-clause-waits g c).In-Some in
    waits-more g.N.Network.reading c.args.problem.machine.now c.args.board.now c.args.problem.ask.now c.args.choice.now.goal c.args.first choices c.requires.laid
    c.in-Some.act c.args.choice.now.places o c.in-Some-state_before.before c.in-Some-state_before.ensures.some c.open_action.new.self c.in-Ok-open_action.ensures.suffix c.in-Ok-open_action.ensures.loaded

pub returns-clause-laid : goal.returns-clause-laid
returns-clause-laid g c =
    let choices = (choices_of (suffix_of c.args.board.now)).choices in
    let child = child-more c.args.problem.machine.now c.args.choice.now.goal choices c.args.choice.now c.in-Some.act c.in-Some.is in
    let o = more-open g (goal.at.returns-clause-laid g c).In-Some in
    subst (HasList g.N.Network.reading c.place_all.new.board c.args.problem.machine.now c.args.problem.ask.now c.in-Some-state_before.before.state) (sym child)
    (more-laid g.N.Network.reading c.args.problem.machine.now c.args.board.now c.args.problem.ask.now c.args.choice.now.goal c.args.first choices c.requires.laid
    c.in-Some.act c.args.choice.now.places o c.in-Some-state_before.before c.in-Some-state_before.ensures.some c.open_action.new.self c.in-Ok-open_action.ensures.suffix c.in-Ok-open_action.ensures.loaded
    c.place_all.new.board c.place_all.ensures.stands c.place_all.ensures.suffix c.place_all.ensures.same.loaded)
