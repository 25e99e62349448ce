use Rattle.std.proofs.Common.{◌≡◌, ℕ, None, length, ap, ◌∙◌, arith}
use Rattle.tp_base.specs.Padded.{padded}
use Rattle.tp_base.proofs.PaddedFacts.{length-padded, padded-at}
use Rattle.tp_pool.specs.Queues.{BucketQueue, head_at}
use Rattle.tp_pool.proofs.BucketFacts.{emptied, emptied-none}
use Rattle.tp_pool.proofs.buckets.Buckets.new.Goals as goal
use Rattle.tp_pool.proofs.buckets.Buckets.new.Goals.{In_ok-with_capacity-2}

none : (c : In_ok-with_capacity-2) (k : ℕ) → head_at (padded None c.args.width c.in_ok-with_capacity.field-0.items) k ≡ None
none c k = padded-at None c.args.width c.in_ok-with_capacity.field-0.items k ∙ ap (λ hs. head_at hs k) c.in_ok-with_capacity.ensures.items

pub invariant_of-result : goal.invariant_of-result
invariant_of-result c =
    let heads = c.in_ok-with_capacity.field-0.items in
    let nexts = c.in_ok-with_capacity-2.field-0.items in
    let no_heads = ap length c.in_ok-with_capacity.ensures.items in
    let no_nexts = ap length c.in_ok-with_capacity-2.ensures.items in
    let wide = length-padded None c.args.width heads (omega arith) in
    record {
      queue = emptied 0 c.args.width (padded None c.args.width heads) (padded None c.args.nodes nexts) (none c) (omega arith);
      top_there = omega arith;
      few_heads = omega arith;
      few_nexts = omega arith;
      heads_room = c.in_ok-with_capacity.ensures.capacity;
      nexts_room = c.in_ok-with_capacity-2.ensures.capacity;
    }

pub returns : goal.returns
returns c =
    let heads = padded None c.args.width c.in_ok-with_capacity.field-0.items in
    let nexts = padded None c.args.nodes c.in_ok-with_capacity-2.field-0.items in
    ap {B = BucketQueue} (λ qs. record { nodes = c.args.nodes; width = c.args.width; base = 0; queued = qs }) (emptied-none 0 heads nexts (none c))
