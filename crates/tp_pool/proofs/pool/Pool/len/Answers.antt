use Rattle.std.proofs.Common.{arith}
use Rattle.tp_pool.proofs.ViewFacts.{as_many}
use Rattle.tp_pool.proofs.pool.Pool.len.Goals as goal

pub returns-clause-len : goal.returns-clause-len
returns-clause-len c = (let many = as_many c.self.inside c.args.self.now c.self.view_is in omega (arith, c.self.inside.nodes.ok.0))
