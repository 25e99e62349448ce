-- Nodes that go into a queue and out of it.
use Rattle.std.proofs.Common.{◌≡◌, inl, inr, ℕ, ◌<◌, ◌≤◌, true, false, eqb, List, [], ◌∷◌, ◌++◌, length, refl, sym, subst, ◌∙◌, arith}
use Rattle.std.specs.List.{list_any, IsDistinct, AllByRecursion}
use Rattle.std.specs.List.Sorted.{IsPermutation}
use Rattle.std.proofs.lemmas.Bool.{cases_Bool, eqb-true, false≢true}
use Rattle.std.proofs.lemmas.Cmp.{nat_eq_equiv}
use Rattle.std.proofs.lemmas.List.{length-map}
use Rattle.std.proofs.lemmas.List.Sorted.{IsPermutation-map, IsPermutation-trans, IsPermutation-to_front, list_any-IsPermutation}
use Rattle.std.proofs.lemmas.Map.Keys.{IsDistinct-head, IsDistinct-tail, IsDistinct-push, IsDistinct-IsPermutation}
use Rattle.std.proofs.lemmas.Map.Steps.{length-le_from_distinct_below}
use Rattle.tp_pool.specs.Queues.{Queued, nodes_of, IsIn}
use Rattle.tp_pool.specs.Linked.{AreQueued}

none_from_apart : (node : ℕ) (nodes : List ℕ) → AllByRecursion (λ n. eqb node n ≡ false) nodes → list_any (eqb node) nodes ≡ false
none_from_apart node [] apart = refl
none_from_apart node (n ∷ nodes) apart = rw (apart.0, none_from_apart node nodes apart.1) refl

-- what is not in it passes no test for it
pub out_test : (node : ℕ) (queued : List Queued) → ¬ IsIn node queued → list_any (eqb node) (nodes_of queued) ≡ false
out_test node queued out = elim (cases_Bool (list_any (eqb node) (nodes_of queued))) [
  | inl is ↦ absurd (out is)
  | inr none ↦ none
]

pub none-queued : (nodes : ℕ) → AreQueued [] nodes
unfolding IsDistinct
none-queued nodes = record { different = tt; known = λ node is. absurd (false≢true is) }

-- there are at most as many as nodes
pub few : (queued : List Queued) (nodes : ℕ) → AreQueued queued nodes → length queued ≤ nodes
few queued nodes are =
    let most = length-le_from_distinct_below (nodes_of queued) nodes are.different are.known in
    let many = length-map queued (λ (q : Queued). q.node) in
    omega arith

-- with a node more
pub put-queued : (q : Queued) (before after : List Queued) (nodes : ℕ) → AreQueued before nodes → q.node < nodes → list_any (eqb q.node) (nodes_of before) ≡ false → IsPermutation (q ∷ before) after → AreQueued after nodes
put-queued q before after nodes are below out moved = record {
  different = IsDistinct-IsPermutation eqb nat_eq_equiv.symm (nodes_of before ++ q.node ∷ []) (nodes_of after) moves (IsDistinct-push nat_eq_equiv (nodes_of before) q.node are.different out);
  known = λ node is. known_of node (list_any-IsPermutation (eqb node) (q.node ∷ nodes_of before) (nodes_of after) mapped ∙ is);
}
  where
    mapped : IsPermutation (q.node ∷ nodes_of before) (nodes_of after)
    mapped = IsPermutation-map (λ (p : Queued). p.node) (q ∷ before) after moved

    moves : IsPermutation (nodes_of before ++ q.node ∷ []) (nodes_of after)
    moves = IsPermutation-trans (nodes_of before ++ q.node ∷ []) (q.node ∷ nodes_of before) (nodes_of after) (IsPermutation-to_front (nodes_of before) q.node) mapped

    known_of : (node : ℕ) → list_any (eqb node) (q.node ∷ nodes_of before) ≡ true → node < nodes
    known_of node is = elim (cases_Bool (eqb node q.node)) [
      | inl same ↦ (let e = eqb-true node q.node same in subst (λ n. n < nodes) (sym e) below)
      | inr other ↦ are.known node (rw other at is)
    ]

apart_now : (q : Queued) (before after : List Queued) (nodes : ℕ) → AreQueued before nodes → IsPermutation before (q ∷ after) → IsDistinct eqb (q.node ∷ nodes_of after)
apart_now q before after nodes are moved = IsDistinct-IsPermutation eqb nat_eq_equiv.symm (nodes_of before) (q.node ∷ nodes_of after) (IsPermutation-map (λ (p : Queued). p.node) before (q ∷ after) moved) are.different

-- with a node less
pub take-queued : (q : Queued) (before after : List Queued) (nodes : ℕ) → AreQueued before nodes → IsPermutation before (q ∷ after) → AreQueued after nodes
take-queued q before after nodes are moved = record {
  different = IsDistinct-tail eqb q.node (nodes_of after) (apart_now q before after nodes are moved);
  known = λ node is. are.known node (list_any-IsPermutation (eqb node) (nodes_of before) (q.node ∷ nodes_of after) (IsPermutation-map (λ (p : Queued). p.node) before (q ∷ after) moved) ∙ or_more node is);
}
  where
    or_more : (node : ℕ) → list_any (eqb node) (nodes_of after) ≡ true → list_any (eqb node) (q.node ∷ nodes_of after) ≡ true
    or_more node is = elim (cases_Bool (eqb node q.node)) [
      | inl same ↦ rw same refl
      | inr other ↦ rw (other, is) refl
    ]

pub taken_out : (q : Queued) (before after : List Queued) (nodes : ℕ) → AreQueued before nodes → IsPermutation before (q ∷ after) → ¬ IsIn q.node after
taken_out q before after nodes are moved is =
    let none = none_from_apart q.node (nodes_of after) (IsDistinct-head eqb q.node (nodes_of after) (apart_now q before after nodes are moved)) in
    absurd cc

-- what was taken was in it, below the number of nodes
pub taken_known : (q : Queued) (before after : List Queued) (nodes : ℕ) → AreQueued before nodes → IsPermutation before (q ∷ after) → q.node < nodes
taken_known q before after nodes are moved =
    are.known q.node (list_any-IsPermutation (eqb q.node) (nodes_of before) (q.node ∷ nodes_of after) (IsPermutation-map (λ (p : Queued). p.node) before (q ∷ after) moved) ∙ rw (nat_eq_equiv.refl q.node) refl)
