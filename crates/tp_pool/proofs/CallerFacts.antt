-- What is in a queue after a call, for callers.
use Rattle.std.proofs.Common.{◌≡◌, ◌≢◌, ◌⊎◌, inl, inr, ℕ, eqb, List, [], ◌∷◌, refl, ap, sym, ◌∙◌, arith}
use Rattle.std.specs.List.{Contains, list_any}
use Rattle.std.specs.List.Sorted.{IsPermutation}
use Rattle.std.proofs.lemmas.Bool.{cases_Bool, eqb-true, false≢true}
use Rattle.std.proofs.lemmas.List.Elements.{Contains-append_right, Contains-get_or}
use Rattle.std.proofs.lemmas.List.Sorted.{IsPermutation-map, list_any-IsPermutation}
use Rattle.tp_pool.specs.Queues.{Queued, nodes_of, IsIn, IsTaken}

-- whether a node is in it does not depend on the order
pub same_test : (node : ℕ) (xs ys : List Queued) → IsPermutation xs ys → list_any (eqb node) (nodes_of xs) ≡ list_any (eqb node) (nodes_of ys)
same_test node xs ys moved = list_any-IsPermutation (eqb node) (nodes_of xs) (nodes_of ys) (IsPermutation-map (λ (q : Queued). q.node) xs ys moved)

pub in_more : (node : ℕ) (q : Queued) (rest : List Queued) → IsIn node (q ∷ rest) → (node ≡ q.node) ⊎ IsIn node rest
in_more node q rest is = elim (cases_Bool (eqb node q.node)) [
  | inl same ↦ inl (eqb-true node q.node same)
  | inr other ↦ inr (rw other at is)
]

pub out_of_none : (node : ℕ) (queued : List Queued) → queued ≡ [] → ¬ IsIn node queued
out_of_none node queued none is = absurd (false≢true (sym (ap (λ qs. list_any (eqb node) (nodes_of qs)) none) ∙ is))

-- what is in it after a node was put in
pub in_put : (node : ℕ) (q : Queued) (before after : List Queued) → IsPermutation (q ∷ before) after → IsIn node after → (node ≡ q.node) ⊎ IsIn node before
in_put node q before after moved is = in_more node q before (same_test node (q ∷ before) after moved ∙ is)

pub out_put : (node : ℕ) (q : Queued) (before after : List Queued) → IsPermutation (q ∷ before) after → node ≢ q.node → ¬ IsIn node before → ¬ IsIn node after
out_put node q before after moved differs out is = elim (in_put node q before after moved is) [ inl same ↦ differs same | inr in_before ↦ out in_before ]

-- what is in it after a node was taken out was in it before
pub in_taken : (node taken : ℕ) (before after : List Queued) → IsTaken taken before after → IsIn node after → IsIn node before
in_taken node taken before after is there =
    let q : Queued = record { node = taken; bound = is.bound } in
    same_test node before (q ∷ after) is.rest ∙ elim (cases_Bool (eqb node taken)) [
      | inl same ↦ rw same refl
      | inr other ↦ rw (other, there) refl
    ]

-- a node that is in it has a bound there
pub queued-as : (node : ℕ) (queued : List Queued) → IsIn node queued → (q : Queued) × Contains queued q × (q.node ≡ node)
queued-as node [] is = absurd (false≢true is)
queued-as node (q ∷ queued) is = elim (in_more node q queued is) [
  | inl same ↦ (q, Contains-get_or (q ∷ queued) 0 q (omega arith), sym same)
  | inr later ↦ let there = queued-as node queued later in (there.0, Contains-append_right (q ∷ []) queued there.0 there.1, there.2)
]
