use Rattle.std.proofs.Common.{◌≡◌, ◌<◌, ℕ, None, Option, List, length, rules, ap, sym, subst, ◌∙◌, arith}
use Rattle.std.specs.Prelude.{slice_set}
use Rattle.std.proofs.lemmas.List.{length-set}
use Rattle.std.proofs.lemmas.Option.{none-some}
use Rattle.tp_base.proofs.PaddedFacts.{length-padded, padded-at, padded-set}
use Rattle.tp_pool.specs.Queues.{BucketQueue, IsTaken, IsIn, head_at}
use Rattle.tp_pool.specs.Linked.{queued_of, IsBuckets}
use Rattle.tp_pool.specs.QueueGrowth.{heads_of, nexts_of, IsGrowing}
use Rattle.tp_pool.proofs.BucketFacts.{IsFirst, IsFound, moved-on, is_first, is_none, head-there, take-all, take-gone, take-queue, some-taken}
use Rattle.tp_pool.proofs.buckets.Buckets.take.Goals as goal
use Rattle.tp_pool.proofs.buckets.Buckets.take.Goals.{After-link_at, In_ok-node, After-link_at-2}

found : (c : After-link_at) → IsFound c.self.inside.cursor c.first_filled-self-inside.result (heads_of c.self.inside) c.deref.result.now c.link_at.result
found c =
    let a = c.self.inside in
    let inv = c.self.invariant in
    let wide = length-padded None a.width a.heads.items inv.few_heads in
    let few = inv.few_heads in
    let cursor = inv.queue.linked.within in
    let len = ap length c.deref.ensures.value in
    record {
      same = λ k. padded-at None a.width a.heads.items k ∙ ap (λ hs. head_at hs k) (sym c.deref.ensures.value);
      within = omega (arith, c.first_filled-self-inside.ensures.within);
      empty = c.first_filled-self-inside.ensures.empty;
      filled = c.first_filled-self-inside.ensures.filled;
      here = c.link_at.ensures ∙ ap (λ hs. head_at hs c.first_filled-self-inside.result) (c.deref-2.ensures.value ∙ sym c.deref.ensures.value);
    }

-- the cursor moved on
moved : (c : After-link_at) → IsBuckets c.self.inside.base c.first_filled-self-inside.result (heads_of c.self.inside) (nexts_of c.self.inside)
moved c =
    let a = c.self.inside in
    let f = found c in
    moved-on a.base a.cursor c.first_filled-self-inside.result (heads_of a) (nexts_of a) c.self.invariant.queue.linked f.within (λ k after before. f.same k ∙ f.empty k after before)

grown : (c : After-link_at) → IsGrowing (record { heads = c.self.inside.heads; nexts = c.self.inside.nexts; nodes = c.self.inside.nodes; width = c.self.inside.width; base = c.self.inside.base; cursor = c.first_filled-self-inside.result; top = c.self.inside.top })
grown c =
    let inv = c.self.invariant in
    record {
      queue = record { linked = moved c; top_within = inv.queue.top_within; none_above = inv.queue.none_above };
      top_there = inv.top_there;
      few_heads = inv.few_heads;
      few_nexts = inv.few_nexts;
      heads_room = inv.heads_room;
      nexts_room = inv.nexts_room;
    }

pub invariant_of-self : goal.invariant_of-self
invariant_of-self c = grown (goal.at.invariant_of-self c).After-link_at

pub returns-in_err-node-clause-none : goal.returns-in_err-node-clause-none
returns-in_err-node-clause-none c =
    let a = c.self.inside in
    let none = is_none a.base a.cursor c.first_filled-self-inside.result (heads_of a) c.deref.result.now (nexts_of a) c.link_at.result c.self.invariant.queue.linked (found (goal.at.returns-in_err-node-clause-none c).After-link_at) c.in_err-node.was in
    ((λ _. ap (λ (b : BucketQueue). b.queued) (sym c.self.view_is) ∙ none), (λ _. search rules))

first : (c : In_ok-node) (f : IsFound c.self.inside.cursor c.first_filled-self-inside.result (heads_of c.self.inside) c.deref.result.now c.link_at.result) → IsFirst c.self.inside.base c.first_filled-self-inside.result (heads_of c.self.inside) (nexts_of c.self.inside) c.in_ok-node.node
first c f =
    let a = c.self.inside in
    is_first a.base a.cursor c.first_filled-self-inside.result (heads_of a) c.deref.result.now (nexts_of a) c.link_at.result c.in_ok-node.node c.self.invariant.queue.linked f c.in_ok-node.was

-- what is put at the head
read : (c : After-link_at-2) → c.link_at-2.result ≡ head_at (nexts_of c.self.inside) c.in_ok-node.node
read c =
    let a = c.self.inside in
    c.link_at-2.ensures ∙ ap (λ xs. head_at xs c.in_ok-node.node) c.deref-3.ensures.value ∙ sym (padded-at None a.nodes a.nexts.items c.in_ok-node.node)

there : (c : In_ok-node) (f : IsFound c.self.inside.cursor c.first_filled-self-inside.result (heads_of c.self.inside) c.deref.result.now c.link_at.result) → c.first_filled-self-inside.result < length c.self.inside.heads.items
there c f =
    let a = c.self.inside in
    head-there a.heads.items c.first_filled-self-inside.result c.in_ok-node.node (sym (padded-at None a.width a.heads.items c.first_filled-self-inside.result) ∙ (first c f).here)

pub invariant_of-self-2 : goal.invariant_of-self-2
invariant_of-self-2 c =
    let a = c.self.inside in
    let inv = c.self.invariant in
    let place = c.first_filled-self-inside.result in
    let f = found (goal.at.invariant_of-self-2 c).After-link_at in
    let is = first (goal.at.invariant_of-self-2 c).In_ok-node f in
    let behind = read (goal.at.invariant_of-self-2 c).After-link_at-2 in
    let set = padded-set None a.width a.heads.items place c.link_at-2.result (there (goal.at.invariant_of-self-2 c).In_ok-node f) in
    let len = length-set a.heads.items place c.link_at-2.result in
    let top_there = inv.top_there in
    let few_heads = inv.few_heads in
    record {
      queue = rw set (take-queue a.base place a.top (heads_of a) (nexts_of a) c.in_ok-node.node c.link_at-2.result inv.queue.top_within inv.queue.none_above is behind);
      top_there = omega arith;
      few_heads = omega arith;
      few_nexts = inv.few_nexts;
      heads_room = inv.heads_room;
      nexts_room = inv.nexts_room;
    }

pub returns-clause-none : goal.returns-clause-none
returns-clause-none c =
    let a = c.self.inside in
    let inv = c.self.invariant in
    let place = c.first_filled-self-inside.result in
    let f = found (goal.at.returns-clause-none c).After-link_at in
    let is = first (goal.at.returns-clause-none c).In_ok-node f in
    let behind = read (goal.at.returns-clause-none c).After-link_at-2 in
    let set = padded-set None a.width a.heads.items place c.link_at-2.result (there (goal.at.returns-clause-none c).In_ok-node f) in
    let taken = take-all a.base place (heads_of a) (nexts_of a) c.in_ok-node.node c.link_at-2.result is behind in
    let some = some-taken c.in_ok-node.node (queued_of a.base (nexts_of a) (heads_of a)) (queued_of a.base (nexts_of a) (slice_set (heads_of a) place c.link_at-2.result)) taken in
    ((λ none. absurd (none-some c.in_ok-node.node (sym none))), (λ none. absurd (some (ap (λ (b : BucketQueue). b.queued) c.self.view_is ∙ none))))

pub returns-clause-taken : goal.returns-clause-taken
returns-clause-taken c =
    let a = c.self.inside in
    let inv = c.self.invariant in
    let place = c.first_filled-self-inside.result in
    let f = found (goal.at.returns-clause-taken c).After-link_at in
    let is = first (goal.at.returns-clause-taken c).In_ok-node f in
    let behind = read (goal.at.returns-clause-taken c).After-link_at-2 in
    let set = padded-set None a.width a.heads.items place c.link_at-2.result (there (goal.at.returns-clause-taken c).In_ok-node f) in
    subst (λ (hs : List (Option ℕ)). IsTaken c.in_ok-node.node c.args.self.now.queued (queued_of a.base (nexts_of a) hs)) (sym set)
    (subst (λ (b : BucketQueue). IsTaken c.in_ok-node.node b.queued (queued_of a.base (nexts_of a) (slice_set (heads_of a) place c.link_at-2.result))) c.self.view_is (take-all a.base place (heads_of a) (nexts_of a) c.in_ok-node.node c.link_at-2.result is behind))

pub returns-clause-out : goal.returns-clause-out
returns-clause-out c =
    let a = c.self.inside in
    let inv = c.self.invariant in
    let place = c.first_filled-self-inside.result in
    let f = found (goal.at.returns-clause-out c).After-link_at in
    let is = first (goal.at.returns-clause-out c).In_ok-node f in
    let behind = read (goal.at.returns-clause-out c).After-link_at-2 in
    let set = padded-set None a.width a.heads.items place c.link_at-2.result (there (goal.at.returns-clause-out c).In_ok-node f) in
    subst (λ (hs : List (Option ℕ)). ¬ IsIn c.in_ok-node.node (queued_of a.base (nexts_of a) hs)) (sym set) (take-gone a.base place (heads_of a) (nexts_of a) c.in_ok-node.node c.link_at-2.result is behind)
