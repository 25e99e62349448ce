use Rattle.std.proofs.Common.{None, length, rules, ap, sym, subst, ◌∙◌, arith}
use Rattle.std.proofs.lemmas.Option.{none-some}
use Rattle.tp_base.proofs.PaddedFacts.{length-padded, padded-at}
use Rattle.tp_pool.specs.Queues.{BucketQueue, IsLeastIn, head_at}
use Rattle.tp_pool.specs.Linked.{queued_of, IsBuckets}
use Rattle.tp_pool.specs.QueueGrowth.{heads_of, nexts_of, IsGrowing}
use Rattle.tp_pool.proofs.BucketFacts.{IsFirst, IsFound, moved-on, is_first, is_none, first-least, least-some}
use Rattle.tp_pool.proofs.buckets.Buckets.first.Goals as goal
use Rattle.tp_pool.proofs.buckets.Buckets.first.Goals.{After-link_at, In_ok-node}

found : (c : After-link_at) → IsFound c.self.inside.cursor c.first_filled-self-inside.result (heads_of c.self.inside) c.deref.result.now c.link_at.result
found c =
    let a = c.self.inside in
    let inv = c.self.invariant in
    let wide = length-padded None a.width a.heads.items inv.few_heads in
    let few = inv.few_heads in
    let cursor = inv.queue.linked.within in
    let len = ap length c.deref.ensures.value in
    record {
      same = λ k. padded-at None a.width a.heads.items k ∙ ap (λ hs. head_at hs k) (sym c.deref.ensures.value);
      within = omega (arith, c.first_filled-self-inside.ensures.within);
      empty = c.first_filled-self-inside.ensures.empty;
      filled = c.first_filled-self-inside.ensures.filled;
      here = c.link_at.ensures ∙ ap (λ hs. head_at hs c.first_filled-self-inside.result) (c.deref-2.ensures.value ∙ sym c.deref.ensures.value);
    }

-- the cursor moved on
moved : (c : After-link_at) → IsBuckets c.self.inside.base c.first_filled-self-inside.result (heads_of c.self.inside) (nexts_of c.self.inside)
moved c =
    let a = c.self.inside in
    let f = found c in
    moved-on a.base a.cursor c.first_filled-self-inside.result (heads_of a) (nexts_of a) c.self.invariant.queue.linked f.within (λ k after before. f.same k ∙ f.empty k after before)

grown : (c : After-link_at) → IsGrowing (record { heads = c.self.inside.heads; nexts = c.self.inside.nexts; nodes = c.self.inside.nodes; width = c.self.inside.width; base = c.self.inside.base; cursor = c.first_filled-self-inside.result; top = c.self.inside.top })
grown c =
    let inv = c.self.invariant in
    record {
      queue = record { linked = moved c; top_within = inv.queue.top_within; none_above = inv.queue.none_above };
      top_there = inv.top_there;
      few_heads = inv.few_heads;
      few_nexts = inv.few_nexts;
      heads_room = inv.heads_room;
      nexts_room = inv.nexts_room;
    }

pub invariant_of-self : goal.invariant_of-self
invariant_of-self c = grown (goal.at.invariant_of-self c).After-link_at

pub invariant_of-self-2 : goal.invariant_of-self-2
invariant_of-self-2 c = grown (goal.at.invariant_of-self-2 c).After-link_at

pub returns-in_err-node-clause-none : goal.returns-in_err-node-clause-none
returns-in_err-node-clause-none c =
    let a = c.self.inside in
    let none = is_none a.base a.cursor c.first_filled-self-inside.result (heads_of a) c.deref.result.now (nexts_of a) c.link_at.result c.self.invariant.queue.linked (found (goal.at.returns-in_err-node-clause-none c).After-link_at) c.in_err-node.was in
    ((λ _. ap (λ (b : BucketQueue). b.queued) (sym c.self.view_is) ∙ none), (λ _. search rules))

first : (c : In_ok-node) (f : IsFound c.self.inside.cursor c.first_filled-self-inside.result (heads_of c.self.inside) c.deref.result.now c.link_at.result) → IsFirst c.self.inside.base c.first_filled-self-inside.result (heads_of c.self.inside) (nexts_of c.self.inside) c.in_ok-node.node
first c f =
    let a = c.self.inside in
    is_first a.base a.cursor c.first_filled-self-inside.result (heads_of a) c.deref.result.now (nexts_of a) c.link_at.result c.in_ok-node.node c.self.invariant.queue.linked f c.in_ok-node.was

pub returns-clause-none : goal.returns-clause-none
returns-clause-none c =
    let a = c.self.inside in
    let is = first (goal.at.returns-clause-none c).In_ok-node (found (goal.at.returns-clause-none c).After-link_at) in
    let some = least-some c.in_ok-node.node (queued_of a.base (nexts_of a) (heads_of a)) (first-least a.base c.first_filled-self-inside.result (heads_of a) (nexts_of a) c.in_ok-node.node is) in
    ((λ none. absurd (none-some c.in_ok-node.node (sym none))), (λ none. absurd (some (ap (λ (b : BucketQueue). b.queued) c.self.view_is ∙ none))))

pub returns-clause-first : goal.returns-clause-first
returns-clause-first c =
    let a = c.self.inside in
    let is = first (goal.at.returns-clause-first c).In_ok-node (found (goal.at.returns-clause-first c).After-link_at) in
    subst (λ (b : BucketQueue). IsLeastIn c.in_ok-node.node b.queued) c.self.view_is (first-least a.base c.first_filled-self-inside.result (heads_of a) (nexts_of a) c.in_ok-node.node is)
