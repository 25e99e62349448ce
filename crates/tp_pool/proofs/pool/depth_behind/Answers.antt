use Rattle.tp_pool.proofs.ViewFacts.{behind_depth, behind_within, behind_fits}
use Rattle.tp_pool.proofs.pool.depth_behind.Goals as goal

pub overflow_add-result : goal.overflow_add-result
overflow_add-result c = behind_fits c.args.nodes.now c.args.parent c.in-Some.parent _ c.requires.nodes c.requires.parent c.in-Some.is c.requires.fits

pub returns-in-Some-clause-depth : goal.returns-in-Some-clause-depth
returns-in-Some-clause-depth c = behind_depth c.args.nodes.now c.args.parent c.in-Some.parent _ c.requires.nodes c.requires.parent c.in-Some.is

pub returns-in-Some-clause-within : goal.returns-in-Some-clause-within
returns-in-Some-clause-within c = behind_within c.args.nodes.now c.args.parent c.in-Some.parent _ c.requires.nodes c.requires.parent c.in-Some.is
