use Rattle.std.proofs.Common.{◌-◌, ◌<◌, List, ◌∷◌, None, ap, sym, subst, ◌∙◌, arith}
use Rattle.std.specs.List.Sorted.{IsPermutation}
use Rattle.tp_base.specs.Padded.{padded}
use Rattle.tp_base.proofs.PaddedFacts.{length-padded, padded-at}
use Rattle.tp_pool.specs.Queues.{Queued, BucketQueue, head_at}
use Rattle.tp_pool.specs.Linked.{queued_of}
use Rattle.tp_pool.specs.QueueGrowth.{heads_of, nexts_of}
use Rattle.tp_pool.proofs.BucketFacts.{CanPut, can_put, put-all, put-queue}
use Rattle.tp_pool.proofs.buckets.Buckets.put.Goals as goal
use Rattle.tp_pool.proofs.buckets.Buckets.put.Goals.{After-link_at-first}

can : (c : After-link_at-first) → CanPut c.self.inside.base (heads_of c.self.inside) (nexts_of c.self.inside) c.link_at-first.result (c.args.bound - c.self.inside.base) c.args.node
can c =
    let a = c.self.inside in
    let inv = c.self.invariant in
    let place = c.args.bound - a.base in
    let read = c.link_at-first.ensures ∙ ap (λ hs. head_at hs place) c.deref.ensures.value ∙ sym (padded-at None a.width a.heads.items place) in
    can_put c.args.self.now a.base (heads_of a) (nexts_of a) c.link_at-first.result a.nodes a.width c.args.node c.args.bound c.self.view_is (length-padded None a.nodes a.nexts.items inv.few_nexts) (length-padded None a.width a.heads.items inv.few_heads) c.requires.node c.requires.from c.requires.below c.requires.out read

below : (c : After-link_at-first) → c.args.node < c.self.inside.nodes
below c = let nodes = ap (λ (b : BucketQueue). b.nodes) c.self.view_is in let node = c.requires.node in omega arith

within : (c : After-link_at-first) → c.args.bound - c.self.inside.base < c.self.inside.width
within c =
    let width = ap (λ (b : BucketQueue). b.width) c.self.view_is in
    let base = ap (λ (b : BucketQueue). b.base) c.self.view_is in
    let from = c.requires.from in
    let below = c.requires.below in
    omega arith

pub set_link-requires : goal.set_link-requires
set_link-requires c =
    let known = below (goal.at.set_link-requires c).After-link_at-first in
    let room = c.self.invariant.nexts_room in
    omega arith

pub set_link-requires-2 : goal.set_link-requires-2
set_link-requires-2 c =
    let there = within (goal.at.set_link-requires-2 c).After-link_at-first in
    let room = c.self.invariant.heads_room in
    omega arith

pub invariant_of-self : goal.invariant_of-self
invariant_of-self c =
    let a = c.self.inside in
    let inv = c.self.invariant in
    let k = (goal.at.invariant_of-self c).After-link_at-first in
    let place = c.args.bound - a.base in
    let nexts = c.set_link.ensures.set a.nodes (below k) inv.few_nexts in
    let heads = c.set_link-2.ensures.set a.width (within k) inv.few_heads in
    let nexts_capacity = c.set_link.ensures.capacity in
    let heads_capacity = c.set_link-2.ensures.capacity in
    let nexts_room = inv.nexts_room in
    let heads_room = inv.heads_room in
    let top_there = inv.top_there in
    let kept = c.set_link-2.ensures.kept in
    let there = c.set_link-2.ensures.there in
    let top = c.max-self-inside.ensures in
    record {
      queue = rw (nexts, heads, c.max-self-inside.ensures, c.min-self-inside.ensures) (put-queue a.base a.cursor a.top (heads_of a) (nexts_of a) c.link_at-first.result place c.args.node inv.queue (can k));
      top_there = omega arith;
      few_heads = c.set_link-2.ensures.few a.width (within k) inv.few_heads;
      few_nexts = c.set_link.ensures.few a.nodes (below k) inv.few_nexts;
      heads_room = omega arith;
      nexts_room = omega arith;
    }

pub returns-clause-queued : goal.returns-clause-queued
returns-clause-queued c =
    let a = c.self.inside in
    let inv = c.self.invariant in
    let k = (goal.at.returns-clause-queued c).After-link_at-first in
    let place = c.args.bound - a.base in
    let base = ap (λ (b : BucketQueue). b.base) c.self.view_is in
    let from = c.requires.from in
    let nexts = c.set_link.ensures.set a.nodes (below k) inv.few_nexts in
    let heads = c.set_link-2.ensures.set a.width (within k) inv.few_heads in
    let q : Queued = record { node = c.args.node; bound = c.args.bound } in
    subst (λ (qs : List Queued). IsPermutation (q ∷ qs) (queued_of a.base (padded None a.nodes c.set_link.new.links.items) (padded None a.width c.set_link-2.new.links.items))) (ap (λ (b : BucketQueue). b.queued) c.self.view_is)
    (rw (nexts, heads) (put-all a.base a.cursor (heads_of a) (nexts_of a) c.link_at-first.result place c.args.node c.args.bound inv.queue.linked (can k) (omega arith)))
