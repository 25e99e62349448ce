-- The board is back at the goal, which is marked.
use Rattle.tp_search.proofs.held_list.lay_goal.Goals as goal

pub returns-clause-since : goal.returns-clause-since
returns-clause-since g c b ready over =
    c.mark_goal-root.ensures.since b c.args.problem.machine.now c.args.problem.ask.now c.back_to_goal-base.result.0 c.back_to_goal-base.ensures.laid (c.back_to_goal-base.ensures.since b ready over)

pub returns-clause-laid : goal.returns-clause-laid
returns-clause-laid g c = c.mark_goal-root.ensures.laid c.args.problem.machine.now c.args.problem.ask.now c.back_to_goal-base.ensures.laid
