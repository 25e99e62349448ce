use Rattle.std.proofs.Common.{length, arith, subst, sym, ap}
use Rattle.tp_pool.specs.Nodes.{AreNodes}
use Rattle.tp_pool.proofs.ViewFacts.{as_many}
use Rattle.tp_pool.proofs.pool.Pool.choice_at.Goals as goal

pub choice_up-requires-clause-nodes : goal.choice_up-requires-clause-nodes
choice_up-requires-clause-nodes c = subst AreNodes (sym c.deref.ensures.value) c.self.invariant.nodes

pub choice_up-requires-clause-there : goal.choice_up-requires-clause-there
choice_up-requires-clause-there c = (let many = as_many c.self.inside c.args.self.now c.self.view_is in let same = ap length c.deref.ensures.value in omega arith)
