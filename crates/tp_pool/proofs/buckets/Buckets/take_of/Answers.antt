use Rattle.std.proofs.Common.{◌≡◌, ◌+◌, ◌-◌, ◌<◌, ◌∷◌, ℕ, None, Some, Option, List, length, ap, sym, subst, ◌∙◌, arith}
use Rattle.std.specs.Prelude.{slice_set}
use Rattle.std.specs.List.Sorted.{IsPermutation}
use Rattle.std.proofs.lemmas.List.{length-set}
use Rattle.tp_base.proofs.PaddedFacts.{length-padded, padded-at, padded-set}
use Rattle.tp_pool.specs.Queues.{BucketQueue, Queued, IsIn, head_at}
use Rattle.tp_pool.specs.Linked.{queued_of}
use Rattle.tp_pool.specs.QueueGrowth.{heads_of, nexts_of}
use Rattle.tp_pool.proofs.BucketFacts.{head-there, head-gone, head-known, head-moved, head-queue}
use Rattle.tp_pool.proofs.buckets.Buckets.take_of.Goals as goal
use Rattle.tp_pool.proofs.buckets.Buckets.take_of.Goals.{In_ok-node, After-link_at-2}

-- the node is the head of its bound
here : (c : In_ok-node) → head_at (heads_of c.self.inside) (c.args.bound - c.self.inside.base) ≡ Some c.in_ok-node.node
here c =
    let a = c.self.inside in
    let place = c.args.bound - a.base in
    padded-at None a.width a.heads.items place ∙ ap (λ hs. head_at hs place) (sym c.deref.ensures.value) ∙ sym c.link_at.ensures ∙ c.in_ok-node.was

there : (c : In_ok-node) → c.args.bound - c.self.inside.base < length c.self.inside.heads.items
there c =
    let a = c.self.inside in
    let place = c.args.bound - a.base in
    head-there a.heads.items place c.in_ok-node.node (sym (padded-at None a.width a.heads.items place) ∙ here c)

-- what is put at the head
read : (c : After-link_at-2) → c.link_at-2.result ≡ head_at (nexts_of c.self.inside) c.in_ok-node.node
read c =
    let a = c.self.inside in
    c.link_at-2.ensures ∙ ap (λ xs. head_at xs c.in_ok-node.node) c.deref-2.ensures.value ∙ sym (padded-at None a.nodes a.nexts.items c.in_ok-node.node)

pub invariant_of-self : goal.invariant_of-self
invariant_of-self c =
    let a = c.self.inside in
    let inv = c.self.invariant in
    let place = c.args.bound - a.base in
    let is = here (goal.at.invariant_of-self c).In_ok-node in
    let behind = read (goal.at.invariant_of-self c).After-link_at-2 in
    let set = padded-set None a.width a.heads.items place c.link_at-2.result (there (goal.at.invariant_of-self c).In_ok-node) in
    let len = length-set a.heads.items place c.link_at-2.result in
    let top_there = inv.top_there in
    let few_heads = inv.few_heads in
    record {
      queue = rw set (head-queue a.base a.cursor a.top place (heads_of a) (nexts_of a) c.in_ok-node.node inv.queue is c.link_at-2.result behind);
      top_there = omega arith;
      few_heads = omega arith;
      few_nexts = inv.few_nexts;
      heads_room = inv.heads_room;
      nexts_room = inv.nexts_room;
    }

pub returns-clause-taken : goal.returns-clause-taken
returns-clause-taken c =
    let a = c.self.inside in
    let inv = c.self.invariant in
    let place = c.args.bound - a.base in
    let is = here (goal.at.returns-clause-taken c).In_ok-node in
    let behind = read (goal.at.returns-clause-taken c).After-link_at-2 in
    let set = padded-set None a.width a.heads.items place c.link_at-2.result (there (goal.at.returns-clause-taken c).In_ok-node) in
    let base = ap (λ (b : BucketQueue). b.base) c.self.view_is in
    let from = c.requires.from in
    let at : c.args.bound ≡ a.base + place = omega arith in
    let q : Queued = record { node = c.in_ok-node.node; bound = c.args.bound } in
    subst (λ (hs : List (Option ℕ)). IsPermutation c.args.self.now.queued (q ∷ queued_of a.base (nexts_of a) hs)) (sym set)
    (subst (λ (b : BucketQueue). IsPermutation b.queued (q ∷ queued_of a.base (nexts_of a) (slice_set (heads_of a) place c.link_at-2.result))) c.self.view_is
    (head-moved a.base a.cursor a.top place (heads_of a) (nexts_of a) c.in_ok-node.node inv.queue is c.link_at-2.result behind c.args.bound at))

pub returns-clause-out : goal.returns-clause-out
returns-clause-out c =
    let a = c.self.inside in
    let inv = c.self.invariant in
    let place = c.args.bound - a.base in
    let is = here (goal.at.returns-clause-out c).In_ok-node in
    let behind = read (goal.at.returns-clause-out c).After-link_at-2 in
    let set = padded-set None a.width a.heads.items place c.link_at-2.result (there (goal.at.returns-clause-out c).In_ok-node) in
    subst (λ (hs : List (Option ℕ)). ¬ IsIn c.in_ok-node.node (queued_of a.base (nexts_of a) hs)) (sym set) (head-gone a.base a.cursor a.top place (heads_of a) (nexts_of a) c.in_ok-node.node inv.queue is c.link_at-2.result behind)

pub returns-clause-known : goal.returns-clause-known
returns-clause-known c =
    let a = c.self.inside in
    let inv = c.self.invariant in
    let place = c.args.bound - a.base in
    let is = here (goal.at.returns-clause-known c).In_ok-node in
    let behind = read (goal.at.returns-clause-known c).After-link_at-2 in
    let set = padded-set None a.width a.heads.items place c.link_at-2.result (there (goal.at.returns-clause-known c).In_ok-node) in
    let nodes = ap (λ (b : BucketQueue). b.nodes) c.self.view_is in
    let many = length-padded None a.nodes a.nexts.items inv.few_nexts in
    let below = head-known a.base a.cursor a.top place (heads_of a) (nexts_of a) c.in_ok-node.node inv.queue is in
    omega arith
