-- The index of actions, made from the last action on.
use Rattle.std.proofs.Common.{◌≡◌, ◌≢◌, inl, inr, ℕ, zero, suc, ◌+◌, ◌<◌, ◌≤◌, true, eqb, List, [], ◌∷◌, length, slice_get, Option, Some, None, refl, sym, ap, subst, ◌∙◌, arith, replicate}
use Rattle.std.specs.Prelude.{slice_set, IfSome}
use Rattle.std.proofs.lemmas.Bool.{cases_Bool, eqb-true, eq-eqb}
use Rattle.std.proofs.lemmas.Option.{same_Some}
use Rattle.std.proofs.lemmas.List.{get_or-set_same, get_or-set_other, length-set}
use Rattle.tp_machine.specs.declared.parts.Action.{Action}
use Rattle.tp_routes.specs.Index.{NoneAt, IsNextAt, AreIndexed, number_at, location_at}
use Rattle.tp_routes.specs.declared.index.ActEnd.{ActEnd}

no_number : (n k : ℕ) → number_at (replicate n None) k ≡ None
no_number zero k = refl
no_number (suc n) zero = refl
no_number (suc n) (suc k) = no_number n k

slice_get-below : (xs : List Action) (k : ℕ) (x : Action) → slice_get xs k ≡ Some x → k < length xs
slice_get-below [] k x at = absurd cc
slice_get-below (y ∷ ys) zero x at = omega arith
slice_get-below (y ∷ ys) (suc k) x at = (let below = slice_get-below ys k x at in omega arith)

-- behind the last action there is none
pub indexed-none : (end : ActEnd) (actions : List Action) (firsts nexts : List (Option ℕ)) (n : ℕ) → firsts ≡ replicate n None → AreIndexed end actions firsts nexts (length actions)
indexed-none end actions firsts nexts n empty = record {
  first = λ loc known. subst (IsNextAt end actions loc (length actions)) (sym (ap (λ f. number_at f loc) empty ∙ no_number n loc)) (λ k a low high at. absurd (omega arith));
  next = λ k a low at. (let below = slice_get-below actions k a at in absurd (omega arith));
}

-- an action that is not at the location may stand before
earlier : (end : ActEnd) (actions : List Action) (loc at : ℕ) (a : Action) (o : Option ℕ) → slice_get actions at ≡ Some a → (location_at end a) ≢ loc → IsNextAt end actions loc (at + 1) o → IsNextAt end actions loc at o
earlier end actions loc at a None is differs none = before none
  where
    before : NoneAt end actions loc (at + 1) (length actions) → NoneAt end actions loc at (length actions)
    before none k b low high there = elim (cases_Bool (eqb k at)) [
      | inl here ↦ (let e = eqb-true k at here in let same : b ≡ a = same_Some b a (sym there ∙ ap (slice_get actions) e ∙ is) in λ from. differs (ap (λ (c : Action). location_at end c) (sym same) ∙ from))
      | inr other ↦ none k b (let h : k ≢ at = λ e. (let t : eqb k at ≡ true = eq-eqb k at e in absurd cc) in omega arith) high there
    ]
earlier end actions loc at a (Some n) is differs (low', within, from, none) = (omega arith, within, from, between)
  where
    between : NoneAt end actions loc at n
    between k b low high there = elim (cases_Bool (eqb k at)) [
      | inl here ↦ (let e = eqb-true k at here in let same : b ≡ a = same_Some b a (sym there ∙ ap (slice_get actions) e ∙ is) in λ from'. differs (ap (λ (c : Action). location_at end c) (sym same) ∙ from'))
      | inr other ↦ none k b (let h : k ≢ at = λ e. (let t : eqb k at ≡ true = eq-eqb k at e in absurd cc) in omega arith) high there
    ]

-- one action more, before those that are indexed
pub indexed-more : (end : ActEnd) (actions : List Action) (firsts nexts : List (Option ℕ)) (at : ℕ) (a : Action) → slice_get actions at ≡ Some a → (location_at end a) < length firsts → at < length nexts
    → AreIndexed end actions firsts nexts (at + 1) → AreIndexed end actions (slice_set firsts (location_at end a) (Some at)) (slice_set nexts at (number_at firsts (location_at end a))) at
indexed-more end actions firsts nexts at a is known within index = record {
  first = λ loc known'. first_of loc (subst (λ n. loc < n) (length-set firsts (location_at end a) (Some at)) known');
  next = next_of;
}
  where
    none_between : NoneAt end actions (location_at end a) at at
    none_between k b low high there = absurd (omega arith)

    first_of : (loc : ℕ) → loc < length firsts → IsNextAt end actions loc at (number_at (slice_set firsts (location_at end a) (Some at)) loc)
    first_of loc known' = elim (cases_Bool (eqb loc (location_at end a))) [
      | inl here ↦
          let e = eqb-true loc (location_at end a) here in
          let own : IsNextAt end actions (location_at end a) at (Some at) = (omega arith, slice_get-below actions at a is, (λ b there. ap (λ (c : Action). location_at end c) (same_Some b a (sym there ∙ is))), none_between) in
          let there : number_at (slice_set firsts (location_at end a) (Some at)) (location_at end a) ≡ Some at = get_or-set_same firsts (location_at end a) (Some at) None known in
          subst (λ p. IsNextAt end actions p at (number_at (slice_set firsts (location_at end a) (Some at)) p)) (sym e) (subst (IsNextAt end actions (location_at end a) at) (sym there) own)
      | inr other ↦
          let differs : loc ≢ (location_at end a) = λ e. (let t : eqb loc (location_at end a) ≡ true = eq-eqb loc (location_at end a) e in absurd cc) in
          subst (IsNextAt end actions loc at) (sym (get_or-set_other firsts (location_at end a) loc (Some at) None differs)) (earlier end actions loc at a (number_at firsts loc) is (λ e. differs (sym e)) (index.first loc known'))
    ]

    next_of : (k : ℕ) (b : Action) → at ≤ k → slice_get actions k ≡ Some b → IsNextAt end actions (location_at end b) (k + 1) (number_at (slice_set nexts at (number_at firsts (location_at end a))) k)
    next_of k b low there = elim (cases_Bool (eqb k at)) [
      | inl here ↦
          let e = eqb-true k at here in
          let same : b ≡ a = same_Some b a (sym there ∙ ap (slice_get actions) e ∙ is) in
          let put : number_at (slice_set nexts at (number_at firsts (location_at end a))) at ≡ number_at firsts (location_at end a) = get_or-set_same nexts at (number_at firsts (location_at end a)) None within in
          let own : IsNextAt end actions (location_at end a) (at + 1) (number_at firsts (location_at end a)) = index.first (location_at end a) known in
          subst (λ (c : Action). IsNextAt end actions (location_at end c) (k + 1) (number_at (slice_set nexts at (number_at firsts (location_at end a))) k)) (sym same)
          (subst (λ j. IsNextAt end actions (location_at end a) (j + 1) (number_at (slice_set nexts at (number_at firsts (location_at end a))) j)) (sym e) (subst (IsNextAt end actions (location_at end a) (at + 1)) (sym put) own))
      | inr other ↦
          let differs : k ≢ at = λ e. (let t : eqb k at ≡ true = eq-eqb k at e in absurd cc) in
          subst (IsNextAt end actions (location_at end b) (k + 1)) (sym (get_or-set_other nexts at k (number_at firsts (location_at end a)) None differs)) (index.next k b (omega arith) there)
    ]

-- how far the actions are indexed
pub record IndexedSoFar (end : ActEnd) (actions : List Action) (firsts nexts : List (Option ℕ)) (at : ℕ) : Type 0 where
  pub within : at ≤ length actions
  pub indexed : AreIndexed end actions firsts nexts at

-- the action of a number
pub action-there : (end : ActEnd) (xs : List Action) (k loc : ℕ) → k < length xs → IfSome (slice_get xs k) (λ a. loc ≡ location_at end a) → (a : Action) × (slice_get xs k ≡ Some a) × (loc ≡ location_at end a)
action-there end [] k loc below h = absurd (omega arith)
action-there end (x ∷ xs) zero loc below h = (x, refl, h)
action-there end (x ∷ xs) (suc k) loc below h = action-there end xs k loc (omega arith) h
