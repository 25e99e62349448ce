use Rattle.std.proofs.Common.{◌∙◌, ◌<◌, All, ap, arith, length, sym, subst}
use Rattle.tp_machine.specs.declared.parts.State.{State}
use Rattle.std.specs.Prelude.{pos}
use Rattle.tp_schedule.specs.Routes.{IsGoalState}
use Rattle.tp_bound_make.proofs.GoalFacts.{goals-are, goals-known}
use Rattle.tp_bound_laws.specs.Once.{PassOnce}
use Rattle.tp_bound_laws.specs.Short.{IsOfFewHops}
use Rattle.tp_bound_laws.specs.Trees.{Covers, goals_due}
use Rattle.tp_bound_make.proofs.GoalWalks.{covers-all}
use Rattle.tp_bound_make.proofs.limit_tree.show_limit.Goals as goal
use Rattle.tp_bound_make.proofs.limit_tree.show_limit.Goals.{In-Ok-show_goals}

pub show_goals-requires-clause-known : goal.show_goals-requires-clause-known
show_goals-requires-clause-known g c =
    let machine = c.args.machine.now in
    subst (All (λ (s : State). s.loc.0 < length machine.locations)) (sym (c.as_slice.ensures.value ∙ c.in-Ok-goal_states.ensures)) (goals-known machine c.args.ask.now.want c.args.ask.now.goal c.requires.set.goal)

pub show_goals-requires-clause-are_goals : goal.show_goals-requires-clause-are_goals
show_goals-requires-clause-are_goals g c =
    let machine = c.args.machine.now in
    let ask = c.args.ask.now in
    subst (All (IsGoalState machine ask.want ask.goal)) (sym (c.as_slice.ensures.value ∙ c.in-Ok-goal_states.ensures)) (goals-are machine ask.want ask.goal)

covered : (g : _) (c : In-Ok-show_goals g) → Covers c.args.machine.now c.args.board.now.plans c.args.ask.now c.in-Ok.rows (pos c.args.limit) (goals_due c.args.machine.now c.args.board.now.plans c.args.ask.now c.in-Ok.rows (pos c.args.limit)) c.show_goals.new.nodes × All IsOfFewHops c.show_goals.new.nodes
    × PassOnce c.args.machine.now c.args.board.now.plans c.args.ask.now c.in-Ok.rows (pos c.args.limit) (goals_due c.args.machine.now c.args.board.now.plans c.args.ask.now c.in-Ok.rows (pos c.args.limit)) c.show_goals.new.nodes
covered g c =
    covers-all c.args.machine.now c.args.board.now.plans c.args.ask.now c.args.rooms.now.sums c.args.limit c.new-nodes.result c.show_goals.new.nodes c.as_slice.result.now c.in-Ok.rows c.in-Ok.ensures.rows c.new-nodes.ensures
    (c.as_slice.ensures.value ∙ c.in-Ok-goal_states.ensures) c.in-Ok-show_goals.ensures.shown

pub returns-in-Ok-show_goals-clause-tree : goal.returns-in-Ok-show_goals-clause-tree
returns-in-Ok-show_goals-clause-tree g c = record {
  rows = c.in-Ok.ensures.are c.args.ask.now c.requires.origin c.requires.fits.rooms;
  nodes = (covered g (goal.at.returns-in-Ok-show_goals-clause-tree g c).In-Ok-show_goals).0;
}

pub returns-in-Ok-show_goals-clause-short : goal.returns-in-Ok-show_goals-clause-short
returns-in-Ok-show_goals-clause-short g c = (covered g (goal.at.returns-in-Ok-show_goals-clause-short g c).In-Ok-show_goals).1

pub show_goals-requires-clause-marks : goal.show_goals-requires-clause-marks
show_goals-requires-clause-marks g c = (let none = ap length c.requires.unmarked in let marks = c.boards_have_marks.ensures in omega (arith, none, marks))

pub returns-in-Ok-show_goals-clause-rows : goal.returns-in-Ok-show_goals-clause-rows
returns-in-Ok-show_goals-clause-rows g c = record { sums = c.args.rooms.now.sums; rooms = c.requires.fits.rooms; made = c.in-Ok.ensures.order }

pub returns-in-Ok-show_goals-clause-simple : goal.returns-in-Ok-show_goals-clause-simple
returns-in-Ok-show_goals-clause-simple g c = (covered g (goal.at.returns-in-Ok-show_goals-clause-simple g c).In-Ok-show_goals).2
