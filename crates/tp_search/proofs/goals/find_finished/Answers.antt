-- The only goal is open, and its list stays on the board, or it isn't.
use Rattle.std.proofs.Common.{[], ◌∷◌, ◌++◌, ◌∙◌, length, ap, sym, subst, arith}
use Rattle.tp_search.specs.SearchProgress.{AreOpenGoals}
use Rattle.tp_search.proofs.GoalFacts.{goal-alone, goal-none}
use Rattle.tp_search.proofs.goals.find_finished.Goals as goal

pub returns-in_default-clause-goals : goal.returns-in_default-clause-goals
returns-in_default-clause-goals g c =
    subst (AreOpenGoals c.args.problem.machine.now c.args.board.now.plans c.args.problem.ask.now) (sym c.requires.empty)
    (goal-none c.args.problem.machine.now c.args.board.now.plans c.args.problem.ask.now c.args.state c.requires.only c.in_default.ensures.none)

pub returns-in_default-clause-over : goal.returns-in_default-clause-over
returns-in_default-clause-over g c = c.open_at.ensures.back c.in_default.is

pub returns-clause-goals : goal.returns-clause-goals
returns-clause-goals g c =
    subst (AreOpenGoals c.args.problem.machine.now c.args.board.now.plans c.args.problem.ask.now) (sym (c.push_reserved.ensures.items ∙ ap (λ gs. gs ++ c.in-Some.opened.goal ∷ []) c.requires.empty))
    (goal-alone c.args.problem.machine.now c.args.board.now.plans c.args.problem.ask.now c.args.state c.requires.only c.in-Some.opened.goal c.in-Some.ensures.state c.in-Some.ensures.bound)

pub returns-clause-over : goal.returns-clause-over
returns-clause-over g c = c.mark_goal-root.ensures.since c.args.board.now c.args.problem.machine.now c.args.problem.ask.now c.in-Some.opened.base.0 c.in-Some.ensures.laid c.in-Some.ensures.since

pub returns-clause-holds : goal.returns-clause-holds
returns-clause-holds g c s none = record {
  goal = c.args.state;
  before = [];
  laid = c.mark_goal-root.ensures.laid c.args.problem.machine.now c.args.problem.ask.now c.in-Some.ensures.laid;
  children = λ node from within. absurd (omega (arith, ap length none, within));
}
