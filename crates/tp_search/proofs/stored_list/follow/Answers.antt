-- The goal of an open list can be laid, and then its choices.
use Rattle.std.proofs.Common.{[], subst, sym}
use Rattle.tp_pool.specs.Entries.{choices_of as stored_at}
use Rattle.tp_schedule.specs.Choices.{IsOpen, going}
use Rattle.tp_search.specs.Stored.{list_by}
use Rattle.tp_search.proofs.FollowLists.{goal-open}
use Rattle.tp_search.proofs.stored_list.follow.Goals as goal

pub follow_goal-requires-clause-opens : goal.follow_goal-requires-clause-opens
follow_goal-requires-clause-opens g c =
    let choices = stored_at c.args.store.now.entries c.args.node in
    subst (λ s. IsOpen c.args.problem.machine.now c.args.board.now.plans c.args.problem.ask.now (going s [])) (sym (c.goal_of-goal.ensures c.args.problem.machine.now))
    (goal-open c.args.problem.machine.now c.args.board.now.plans c.args.problem.ask.now (list_by c.args.problem.machine.now choices).goal choices c.requires.stored c.requires.opens)
