use Rattle.std.proofs.Common.{◌<◌, length, ap, ◌∙◌, arith}
use Rattle.tp_pool.specs.declared.choice.ListNode.{ListNode}
use Rattle.tp_pool.specs.Entries.{bound_of}
use Rattle.tp_pool.proofs.ViewFacts.{same_entries, as_many, bound_there}
use Rattle.tp_pool.proofs.pool.Pool.bound.Goals as goal

pub index-requires : goal.index-requires
index-requires c = (let many = as_many c.self.inside c.args.self.now c.self.view_is in omega (arith, c.self.inside.nodes.ok.0))

pub returns : goal.returns
returns c =
    let many = as_many c.self.inside c.args.self.now c.self.view_is in
    let below : c.args.node < length c.self.inside.nodes.items = omega arith in
    let there = bound_there c.self.inside.nodes.items c.args.node c.index.result.now c.self.invariant.nodes below in
    ap (λ (n : ListNode). n.bound) c.index.ensures ∙ there ∙ ap (λ es. bound_of es c.args.node) (same_entries c.self.inside c.args.self.now c.self.view_is)
