-- What each call makes of linked nodes.
use Rattle.std.proofs.Common.{◌≡◌, ◌≢◌, ℕ, suc, ◌+◌, ◌-◌, ◌<◌, ◌≤◌, List, [], ◌∷◌, length, min, max, Option, Some, None, refl, sym, ap, subst, ◌∙◌, arith, inl, inr}
use Rattle.std.specs.Prelude.{slice_set}
use Rattle.std.specs.List.Sorted.{IsPermutation}
use Rattle.std.proofs.lemmas.Bool.{cases_lt}
use Rattle.std.proofs.lemmas.Option.{none-some}
use Rattle.std.proofs.lemmas.List.{length-set, get_or-set_other, get_or_past}
use Rattle.std.proofs.lemmas.List.Elements.{Contains-get_or}
use Rattle.std.proofs.lemmas.List.Sorted.{Contains-permutation, IsPermutation-sym, length_permutation}
use Rattle.tp_pool.specs.Queues.{Queued, BucketQueue, IsIn, IsLeastIn, IsTaken, head_at}
use Rattle.tp_pool.specs.Linked.{queued_from, queued_of, AreQueued, IsBuckets, IsQueue}
use Rattle.tp_pool.proofs.QueueFacts.{out_test, none-queued, few, put-queued, take-queued, taken_out, taken_known}
use Rattle.tp_pool.proofs.LinkFacts.{put-in, take-out, queued-none, least-first}

pub emptied-none : (base : ℕ) (heads nexts : List (Option ℕ)) → ((k : ℕ) → head_at heads k ≡ None) → queued_of base nexts heads ≡ []
emptied-none base heads nexts none = queued-none base (suc (length nexts)) nexts heads (λ k below. none k)

pub emptied : (base cursor : ℕ) (heads nexts : List (Option ℕ)) → ((k : ℕ) → head_at heads k ≡ None) → cursor ≤ length heads → IsQueue base cursor 0 heads nexts
emptied base cursor heads nexts none within = record {
  linked = record {
    queued = subst (λ qs. AreQueued qs (length nexts)) (sym (emptied-none base heads nexts none)) (none-queued (length nexts));
    within = within;
    empty = λ k below. none k;
  };
  top_within = omega arith;
  none_above = λ k above. none k;
}

-- A node that can be put in: it is out, its place is that of its bound, and the link behind it is the head there.
pub record CanPut (base : ℕ) (heads nexts : List (Option ℕ)) (link : Option ℕ) (place node : ℕ) : Type 0 where
  pub there : place < length heads
  pub below : node < length nexts
  pub behind : link ≡ head_at heads place
  pub out : ¬ IsIn node (queued_of base nexts heads)

pub can_put : (v : BucketQueue) (base : ℕ) (heads nexts : List (Option ℕ)) (link : Option ℕ) (nodes width node bound : ℕ) → record { nodes = nodes; width = width; base = base; queued = queued_of base nexts heads } ≡ v
    → length nexts ≡ nodes → length heads ≡ width → node < v.nodes → v.base ≤ bound → bound < v.base + v.width → ¬ IsIn node v.queued → link ≡ head_at heads (bound - base) → CanPut base heads nexts link (bound - base) node
can_put v base heads nexts link nodes width node bound is many wide known from below out read =
    let same_nodes = ap (λ (b : BucketQueue). b.nodes) is in
    let same_width = ap (λ (b : BucketQueue). b.width) is in
    let same = ap (λ (b : BucketQueue). b.base) is in
    let there : bound - base < length heads = omega arith in
    record {
      there = there;
      below = omega arith;
      behind = read;
      out = subst (λ (b : BucketQueue). ¬ IsIn node b.queued) (sym is) out;
    }

-- a node put in
pub put-all : (base cursor : ℕ) (heads nexts : List (Option ℕ)) (link : Option ℕ) (place node bound : ℕ) → IsBuckets base cursor heads nexts → CanPut base heads nexts link place node → bound ≡ base + place
    → IsPermutation (record { node = node; bound = bound } ∷ queued_of base nexts heads) (queued_of base (slice_set nexts node link) (slice_set heads place (Some node)))
put-all base cursor heads nexts link place node bound is can at =
    let fuel : length nexts ≡ length (slice_set nexts node link) = sym (length-set nexts node link) in
    let before = queued_of base nexts heads in
    subst (λ most. IsPermutation (record { node = node; bound = bound } ∷ before) (queued_from base (suc most) (slice_set nexts node link) (slice_set heads place (Some node)))) fuel
    (put-in base (length nexts) nexts heads link place node bound can.there can.below can.behind at (few before (length nexts) is.queued) (out_test node before can.out))

pub put-kept : (base cursor : ℕ) (heads nexts : List (Option ℕ)) (link : Option ℕ) (place node : ℕ) → IsBuckets base cursor heads nexts → CanPut base heads nexts link place node
    → IsBuckets base (min cursor place) (slice_set heads place (Some node)) (slice_set nexts node link)
put-kept base cursor heads nexts link place node is can =
    let before = queued_of base nexts heads in
    let after = queued_of base (slice_set nexts node link) (slice_set heads place (Some node)) in
    let fuel : length nexts ≡ length (slice_set nexts node link) = sym (length-set nexts node link) in
    let many = length-set heads place (Some node) in
    let within = is.within in
    record {
      queued = subst (AreQueued after) fuel
          (put-queued (record { node = node; bound = base + place }) before after (length nexts) is.queued can.below (out_test node before can.out) (put-all base cursor heads nexts link place node (base + place) is can refl));
      within = omega arith;
      empty = λ k earlier. get_or-set_other heads place k (Some node) None (λ e. absurd (omega arith)) ∙ is.empty k (omega arith);
    }

pub put-queue : (base cursor top : ℕ) (heads nexts : List (Option ℕ)) (link : Option ℕ) (place node : ℕ) → IsQueue base cursor top heads nexts → CanPut base heads nexts link place node
    → IsQueue base (min cursor place) (max top (place + 1)) (slice_set heads place (Some node)) (slice_set nexts node link)
put-queue base cursor top heads nexts link place node is can =
    let many = length-set heads place (Some node) in
    let within = is.top_within in
    let there = can.there in
    record {
      linked = put-kept base cursor heads nexts link place node is.linked can;
      top_within = omega arith;
      none_above = λ k above. get_or-set_other heads place k (Some node) None (λ e. absurd (omega arith)) ∙ is.none_above k (omega arith);
    }

-- the cursor moved on over heads without a node
pub moved-on : (base cursor place : ℕ) (heads nexts : List (Option ℕ)) → IsBuckets base cursor heads nexts → place ≤ length heads → ((k : ℕ) → cursor ≤ k → k < place → head_at heads k ≡ None) → IsBuckets base place heads nexts
moved-on base cursor place heads nexts is within none = record {
  queued = is.queued;
  within = within;
  empty = λ k below. elim (cases_lt k cursor) [ inl before ↦ is.empty k before | inr after ↦ none k after below ];
}

-- where there is none from the cursor on either there is none at all
pub end-none : (base place : ℕ) (heads nexts : List (Option ℕ)) → IsBuckets base place heads nexts → ((k : ℕ) → place ≤ k → head_at heads k ≡ None) → queued_of base nexts heads ≡ []
end-none base place heads nexts is none = queued-none base (suc (length nexts)) nexts heads (λ k below. elim (cases_lt k place) [ inl before ↦ is.empty k before | inr after ↦ none k after ])

-- the first head with a node
pub record IsFirst (base place : ℕ) (heads nexts : List (Option ℕ)) (node : ℕ) : Type 0 where
  pub linked : IsBuckets base place heads nexts
  pub here : head_at heads place ≡ Some node

-- what was found from the cursor on
pub record IsFound (cursor place : ℕ) (heads slice : List (Option ℕ)) (head : Option ℕ) : Type 0 where
  pub same : (k : ℕ) → head_at heads k ≡ head_at slice k
  pub within : place ≤ length heads
  pub empty : (k : ℕ) → cursor ≤ k → k < place → head_at slice k ≡ None
  pub filled : place < length slice → head_at slice place ≢ None
  pub here : head ≡ head_at slice place

pub is_first : (base cursor place : ℕ) (heads slice nexts : List (Option ℕ)) (head : Option ℕ) (node : ℕ) → IsBuckets base cursor heads nexts → IsFound cursor place heads slice head → head ≡ Some node → IsFirst base place heads nexts node
is_first base cursor place heads slice nexts head node is found some = record {
  linked = moved-on base cursor place heads nexts is found.within (λ k after before. found.same k ∙ found.empty k after before);
  here = found.same place ∙ sym found.here ∙ some;
}

pub is_none : (base cursor place : ℕ) (heads slice nexts : List (Option ℕ)) (head : Option ℕ) → IsBuckets base cursor heads nexts → IsFound cursor place heads slice head → head ≡ None → queued_of base nexts heads ≡ []
is_none base cursor place heads slice nexts head is found none =
    let past : length slice ≤ place = elim (cases_lt place (length slice)) [ inl there ↦ absurd (found.filled there (sym found.here ∙ none)) | inr past ↦ past ] in
    end-none base place heads nexts (moved-on base cursor place heads nexts is found.within (λ k after before. found.same k ∙ found.empty k after before))
    (λ k after. found.same k ∙ get_or_past slice k None (omega arith))

-- a head with a node is there
pub head-there : (heads : List (Option ℕ)) (place node : ℕ) → head_at heads place ≡ Some node → place < length heads
head-there heads place node some = elim (cases_lt place (length heads)) [ inl there ↦ there | inr past ↦ absurd (none-some node (sym (get_or_past heads place None past) ∙ some)) ]

-- the first node taken out
first_out : (base place : ℕ) (heads nexts : List (Option ℕ)) (node : ℕ) → IsFirst base place heads nexts node
    → IsPermutation (queued_of base nexts heads) (record { node = node; bound = base + place } ∷ queued_of base nexts (slice_set heads place (head_at nexts node)))
first_out base place heads nexts node is = take-out base (length nexts) nexts heads place node (base + place) is.here refl (few (queued_of base nexts heads) (length nexts) is.linked.queued)

-- as it is seen
pub first-least : (base place : ℕ) (heads nexts : List (Option ℕ)) (node : ℕ) → IsFirst base place heads nexts node → IsLeastIn node (queued_of base nexts heads)
first-least base place heads nexts node is =
    let q : Queued = record { node = node; bound = base + place } in
    let rest = queued_of base nexts (slice_set heads place (head_at nexts node)) in
    record {
      bound = base + place;
      there = Contains-permutation (q ∷ rest) (queued_of base nexts heads) q (IsPermutation-sym (queued_of base nexts heads) (q ∷ rest) (first_out base place heads nexts node is)) (Contains-get_or (q ∷ rest) 0 q (omega arith));
      least = least-first (base + place) base (suc (length nexts)) nexts heads place refl is.linked.empty;
    }

pub least-some : (node : ℕ) (queued : List Queued) → IsLeastIn node queued → queued ≡ [] → ⊥
least-some node queued is none = (let there = is.there in let e = ap length none in omega (arith, there.1))

pub take-known : (base place : ℕ) (heads nexts : List (Option ℕ)) (node : ℕ) → IsFirst base place heads nexts node → node < length nexts
take-known base place heads nexts node is =
    taken_known (record { node = node; bound = base + place }) (queued_of base nexts heads) (queued_of base nexts (slice_set heads place (head_at nexts node))) (length nexts) is.linked.queued (first_out base place heads nexts node is)

-- with the link behind it, as it is read
moved_out : (base place : ℕ) (heads nexts : List (Option ℕ)) (node : ℕ) (link : Option ℕ) → IsFirst base place heads nexts node → link ≡ head_at nexts node
    → IsPermutation (queued_of base nexts heads) (record { node = node; bound = base + place } ∷ queued_of base nexts (slice_set heads place link))
moved_out base place heads nexts node link is read =
    subst (λ behind. IsPermutation (queued_of base nexts heads) (record { node = node; bound = base + place } ∷ queued_of base nexts (slice_set heads place behind)))
    (sym read) (first_out base place heads nexts node is)

pub take-all : (base place : ℕ) (heads nexts : List (Option ℕ)) (node : ℕ) (link : Option ℕ) → IsFirst base place heads nexts node → link ≡ head_at nexts node → IsTaken node (queued_of base nexts heads) (queued_of base nexts (slice_set heads place link))
take-all base place heads nexts node link is read = record {
  bound = base + place;
  rest = moved_out base place heads nexts node link is read;
  least = least-first (base + place) base (suc (length nexts)) nexts heads place refl is.linked.empty;
}

pub take-gone : (base place : ℕ) (heads nexts : List (Option ℕ)) (node : ℕ) (link : Option ℕ) → IsFirst base place heads nexts node → link ≡ head_at nexts node → ¬ IsIn node (queued_of base nexts (slice_set heads place link))
take-gone base place heads nexts node link is read =
    taken_out (record { node = node; bound = base + place }) (queued_of base nexts heads) (queued_of base nexts (slice_set heads place link)) (length nexts) is.linked.queued (moved_out base place heads nexts node link is read)

pub take-kept : (base place : ℕ) (heads nexts : List (Option ℕ)) (node : ℕ) (link : Option ℕ) → IsFirst base place heads nexts node → link ≡ head_at nexts node → IsBuckets base place (slice_set heads place link) nexts
take-kept base place heads nexts node link is read =
    let many = length-set heads place link in
    let within = is.linked.within in
    record {
      queued = take-queued (record { node = node; bound = base + place }) (queued_of base nexts heads) (queued_of base nexts (slice_set heads place link)) (length nexts) is.linked.queued (moved_out base place heads nexts node link is read);
      within = omega arith;
      empty = λ k earlier. get_or-set_other heads place k link None (λ e. absurd (omega arith)) ∙ is.linked.empty k earlier;
    }

pub take-queue : (base place top : ℕ) (heads nexts : List (Option ℕ)) (node : ℕ) (link : Option ℕ) → top ≤ length heads → ((k : ℕ) → top ≤ k → head_at heads k ≡ None) → IsFirst base place heads nexts node → link ≡ head_at nexts node
    → IsQueue base place top (slice_set heads place link) nexts
take-queue base place top heads nexts node link within none is read =
    let many = length-set heads place link in
    record {
      linked = take-kept base place heads nexts node link is read;
      top_within = omega arith;
      none_above = λ k above. get_or-set_other heads place k link None (λ e. none-some node (sym (none k above) ∙ ap (head_at heads) e ∙ is.here)) ∙ none k above;
    }

-- what was taken was in it
pub some-taken : (node : ℕ) (before after : List Queued) → IsTaken node before after → before ≡ [] → ⊥
some-taken node before after taken none = (let l = length_permutation before (record { node = node; bound = taken.bound } ∷ after) taken.rest in let e = ap length none in omega arith)

-- the head of any bound taken out
module _ (base cursor top place : ℕ) (heads nexts : List (Option ℕ)) (node : ℕ) (is : IsQueue base cursor top heads nexts) (here : head_at heads place ≡ Some node) where
  head-out : IsPermutation (queued_of base nexts heads) (record { node = node; bound = base + place } ∷ queued_of base nexts (slice_set heads place (head_at nexts node)))
  head-out = take-out base (length nexts) nexts heads place node (base + place) here refl (few (queued_of base nexts heads) (length nexts) is.linked.queued)

  pub head-known : node < length nexts
  head-known =
      taken_known (record { node = node; bound = base + place }) (queued_of base nexts heads) (queued_of base nexts (slice_set heads place (head_at nexts node))) (length nexts) is.linked.queued head-out

  -- with the link behind it, as it is read
  module _ (link : Option ℕ) (read : link ≡ head_at nexts node) where
    pub head-moved : (bound : ℕ) → bound ≡ base + place → IsPermutation (queued_of base nexts heads) (record { node = node; bound = bound } ∷ queued_of base nexts (slice_set heads place link))
    head-moved bound at =
        subst (λ b. IsPermutation (queued_of base nexts heads) (record { node = node; bound = b } ∷ queued_of base nexts (slice_set heads place link))) (sym at)
        (subst (λ behind. IsPermutation (queued_of base nexts heads) (record { node = node; bound = base + place } ∷ queued_of base nexts (slice_set heads place behind))) (sym read) head-out)

    pub head-gone : ¬ IsIn node (queued_of base nexts (slice_set heads place link))
    head-gone = taken_out (record { node = node; bound = base + place }) (queued_of base nexts heads) (queued_of base nexts (slice_set heads place link)) (length nexts) is.linked.queued (head-moved (base + place) refl)

    pub head-queue : IsQueue base cursor top (slice_set heads place link) nexts
    head-queue =
        let many = length-set heads place link in
        let within = is.top_within in
        let before = is.linked.within in
        record {
          linked = record {
            queued = take-queued (record { node = node; bound = base + place }) (queued_of base nexts heads) (queued_of base nexts (slice_set heads place link)) (length nexts) is.linked.queued (head-moved (base + place) refl);
            within = omega arith;
            empty = λ k earlier. get_or-set_other heads place k link None (λ e. none-some node (sym (is.linked.empty k earlier) ∙ ap (head_at heads) e ∙ here)) ∙ is.linked.empty k earlier;
          };
          top_within = omega arith;
          none_above = λ k above. get_or-set_other heads place k link None (λ e. none-some node (sym (is.none_above k above) ∙ ap (head_at heads) e ∙ here)) ∙ is.none_above k above;
        }
