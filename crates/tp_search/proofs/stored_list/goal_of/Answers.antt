-- The newest choice has the goal of the list.
use Rattle.tp_search.proofs.FollowLists.{newest-goal}
use Rattle.tp_pool.specs.Entries.{choices_of as stored_at}
use Rattle.tp_search.proofs.stored_list.goal_of.Goals as goal

pub returns : goal.returns
returns c machine = newest-goal machine (stored_at c.args.store.now.entries c.args.node) c.choice_at.result c.depth.result c.requires.some c.depth.ensures c.choice_at.ensures
