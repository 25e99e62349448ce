-- The choices are laid over the goal.
use Rattle.std.proofs.Common.{[], Some, sym, subst, ◌∙◌}
use Rattle.tp_pool.specs.Entries.{choices_of}
use Rattle.tp_schedule.specs.Choices.{IsOpen, going}
use Rattle.tp_search.specs.SearchProgress.{list_at}
use Rattle.tp_search.specs.Stored.{list_by}
use Rattle.tp_search.proofs.FollowLists.{goal-open}
use Rattle.tp_search.proofs.HoldFacts.{over-plans, since-more}
use Rattle.tp_search.proofs.held_list.lay_over_goal.Goals as goal

pub lay_goal-over-requires-clause-opens : goal.lay_goal-over-requires-clause-opens
lay_goal-over-requires-clause-opens g c =
    let choices = choices_of c.args.store.now.entries c.args.node in
    subst (λ s. IsOpen c.args.problem.machine.now c.args.board.now.plans c.args.problem.ask.now (going s [])) (sym (c.goal_of-goal.ensures c.args.problem.machine.now)) (goal-open c.args.problem.machine.now c.args.board.now.plans c.args.problem.ask.now (list_by c.args.problem.machine.now choices).goal choices c.requires.stored c.requires.opens)

pub lay_choices-first-requires-clause-opens : goal.lay_choices-first-requires-clause-opens
lay_choices-first-requires-clause-opens g c =
    let plans = (c.lay_goal-over.ensures.since c.requires.over.0 c.requires.over.1 c.requires.over.3).loaded.plans ∙ sym (over-plans g.N.Network.reading c.requires.over.0 c.args.board.now c.args.problem.machine.now c.args.problem.ask.now (Some c.args.held) c.requires.over.3) in
    subst (λ ps. IsOpen c.args.problem.machine.now ps c.args.problem.ask.now (list_at c.args.problem.machine.now c.args.store.now.entries c.args.node)) (sym plans) c.requires.opens

pub returns-clause-since : goal.returns-clause-since
returns-clause-since g c b ready over =
    since-more g.N.Network.reading b c.lay_goal-over.new.board c.args.problem.machine.now c.args.problem.ask.now c.lay_goal-over.result.base.0 c.lay_goal-over.result.root
    (c.lay_goal-over.ensures.since b ready over) c.lay_choices-first.new.board c.lay_choices-first.ensures.same c.lay_choices-first.ensures.laid.stands
