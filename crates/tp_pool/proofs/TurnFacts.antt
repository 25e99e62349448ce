-- A node that is put in before or behind the one that would be taken first.
use Rattle.std.proofs.Common.{◌≢◌, inl, inr, ℕ, eqb, List, [], ◌∷◌, refl, sym, subst, ◌∙◌}
use Rattle.std.specs.List.Sorted.{IsPermutation}
use Rattle.std.proofs.lemmas.Bool.{cases_Bool}
use Rattle.std.proofs.lemmas.Cmp.{nat_eq_equiv}
use Rattle.std.proofs.lemmas.List.Sorted.{IsPermutation-cons, IsPermutation-middle, IsPermutation-trans}
use Rattle.tp_pool.specs.Queues.{Queued, IsIn}
use Rattle.tp_pool.proofs.CallerFacts.{same_test}

module _ (node first bound : ℕ) (old rest : List Queued) (out : ¬ IsIn node old) (taken : IsPermutation old (record { node = first; bound = bound } ∷ rest)) where
  abbrev one : Queued
  one = record { node = node; bound = bound }

  abbrev head : Queued
  head = record { node = first; bound = bound }

  -- the node is another one
  pub differ : node ≢ first
  differ same =
      let there : IsIn first old = same_test first old (head ∷ rest) taken ∙ rw (nat_eq_equiv.refl first) refl in
      out (subst (λ n. IsIn n old) (sym same) there)

  -- and is not in the rest
  pub still-out : ¬ IsIn node rest
  still-out is = out (same_test node old (head ∷ rest) taken ∙ elim (cases_Bool (eqb node first)) [
    | inl same ↦ rw same refl
    | inr other ↦ rw (other, is) refl
  ])

  with-head : IsPermutation (one ∷ old) (one ∷ head ∷ rest)
  with-head = IsPermutation-cons one old (head ∷ rest) taken

  -- put in behind it
  pub behind-head : (middle new : List Queued) → IsPermutation (one ∷ rest) middle → IsPermutation (head ∷ middle) new → IsPermutation (one ∷ old) new
  behind-head middle new put back =
      IsPermutation-trans (one ∷ old) (one ∷ head ∷ rest) new with-head
      (IsPermutation-trans (one ∷ head ∷ rest) (head ∷ one ∷ rest) new (IsPermutation-middle (one ∷ []) head rest)
      (IsPermutation-trans (head ∷ one ∷ rest) (head ∷ middle) new (IsPermutation-cons head (one ∷ rest) middle put) back))

  -- or before it
  pub before-head : (middle new : List Queued) → IsPermutation (head ∷ rest) middle → IsPermutation (one ∷ middle) new → IsPermutation (one ∷ old) new
  before-head middle new back put =
      IsPermutation-trans (one ∷ old) (one ∷ head ∷ rest) new with-head
      (IsPermutation-trans (one ∷ head ∷ rest) (one ∷ middle) new (IsPermutation-cons one (head ∷ rest) middle back) put)
