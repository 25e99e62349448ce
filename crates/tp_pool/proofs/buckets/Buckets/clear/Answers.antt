use Rattle.std.proofs.Common.{◌≡◌, ℕ, None, [], ap, sym, ◌∙◌, arith}
use Rattle.tp_base.specs.Padded.{padded}
use Rattle.tp_base.proofs.PaddedFacts.{length-padded, padded-at}
use Rattle.tp_pool.specs.Queues.{BucketQueue, head_at}
use Rattle.tp_pool.specs.QueueGrowth.{nexts_of}
use Rattle.tp_pool.proofs.BucketFacts.{emptied, emptied-none}
use Rattle.tp_pool.proofs.buckets.Buckets.clear.Goals as goal
use Rattle.tp_pool.proofs.buckets.Buckets.clear.Goals.{After-empty}

pub empty-requires-clause-before : goal.empty-requires-clause-before
empty-requires-clause-before c = λ k below. (let a = c.self.inside in sym (padded-at None a.width a.heads.items k) ∙ c.self.invariant.queue.linked.empty k below)

pub empty-requires-clause-behind : goal.empty-requires-clause-behind
empty-requires-clause-behind c = λ k above. (let a = c.self.inside in sym (padded-at None a.width a.heads.items k) ∙ c.self.invariant.queue.none_above k above)

pub empty-requires-clause-within : goal.empty-requires-clause-within
empty-requires-clause-within c = c.self.invariant.top_there

none : (c : After-empty) (k : ℕ) → head_at (padded None c.self.inside.width c.empty.new.heads.items) k ≡ None
none c k = padded-at None c.self.inside.width c.empty.new.heads.items k ∙ c.empty.ensures.none k

pub invariant_of-self : goal.invariant_of-self
invariant_of-self c =
    let a = c.self.inside in
    let heads = c.empty.new.heads.items in
    let few = c.self.invariant.few_heads in
    let len = c.empty.ensures.len in
    let wide = length-padded None a.width heads (omega arith) in
    let capacity = c.empty.ensures.capacity in
    let room = c.self.invariant.heads_room in
    record {
      queue = emptied c.args.base a.width (padded None a.width heads) (nexts_of a) (none (goal.at.invariant_of-self c).After-empty) (omega arith);
      top_there = omega arith;
      few_heads = omega arith;
      few_nexts = c.self.invariant.few_nexts;
      heads_room = omega arith;
      nexts_room = c.self.invariant.nexts_room;
    }

pub returns : goal.returns
returns c =
    let a = c.self.inside in
    let heads = padded None a.width c.empty.new.heads.items in
    ap {B = BucketQueue} (λ qs. record { nodes = a.nodes; width = a.width; base = c.args.base; queued = qs }) (emptied-none c.args.base heads (nexts_of a) (none (goal.at.returns c).After-empty))
    ∙ ap {B = BucketQueue} (λ (b : BucketQueue). record { nodes = b.nodes; width = b.width; base = c.args.base; queued = [] }) c.self.view_is
