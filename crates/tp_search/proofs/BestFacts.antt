-- The best complete list that is stored, with one list more.
use Rattle.std.proofs.Common.{◌≡◌, ◌↔◌, inl, inr, ℕ, ◌<◌, ◌≤◌, Bool, true, false, nat_lt, if◌then◌else◌, List, [], ◌∷◌, ◌++◌, length, Contains, Option, Some, None, IsTrue, refl, sym, ap, subst, arith}
use Rattle.std.proofs.lemmas.Bool.{false≢true, ltb-false, ltb-true}
use Rattle.std.proofs.lemmas.List.{get_or_append_left, get_or_push, length_push}
use Rattle.std.proofs.lemmas.List.Elements.{Contains-push_cases}
use Rattle.tp_machine.specs.declared.machine.Machine.{Machine}
use Rattle.tp_pool.specs.Entries.{Entry, bound_of, entry_at}
use Rattle.tp_schedule.specs.Choices.{IsComplete}
use Rattle.tp_schedule.specs.declared.parts.Ask.{Ask}
use Rattle.tp_search.specs.Stored.{HasBest, IsBest, list_by}
use Rattle.tp_search.specs.Stores.{better}

module _ (machine : Machine) (ask : Ask) (entries : List Entry) (e : Entry) where
  none : Entry
  none = record { choices = []; bound = 0 }

  newest : entry_at (entries ++ e ∷ []) (length entries) ≡ e
  newest = get_or_push entries e (record { choices = []; bound = 0 }) (length entries) refl

  older : (node : ℕ) → node < length entries → entry_at (entries ++ e ∷ []) node ≡ entry_at entries node
  older node below = get_or_append_left entries (e ∷ []) (record { choices = []; bound = 0 }) node below

  -- the new list is the best
  best-new : ((x : Entry) → Contains entries x → IsComplete machine ask (list_by machine x.choices) → e.bound ≤ x.bound) → IsComplete machine ask (list_by machine e.choices) → IsBest machine ask (entries ++ e ∷ []) (length entries)
  best-new least complete = record {
    there = omega (arith, length_push entries e);
    complete = subst (λ (x : Entry). IsComplete machine ask (list_by machine x.choices)) (sym newest) complete;
    least = λ x there is. subst (λ (y : Entry). y.bound ≤ x.bound) (sym newest) (elim (Contains-push_cases entries e x there) [
      | inl old ↦ least x old is
      | inr same ↦ (let b = ap (λ (y : Entry). y.bound) same in omega arith)
    ]);
  }

  -- the best one stays the best
  best-old : (node : ℕ) → IsBest machine ask entries node → (IsComplete machine ask (list_by machine e.choices) → bound_of entries node ≤ e.bound) → IsBest machine ask (entries ++ e ∷ []) node
  best-old node is late =
      let same = older node is.there in
      record {
        there = (let there = is.there in omega (arith, length_push entries e));
        complete = subst (λ (x : Entry). IsComplete machine ask (list_by machine x.choices)) (sym same) is.complete;
        least = λ x there complete. subst (λ (y : Entry). y.bound ≤ x.bound) (sym same) (elim (Contains-push_cases entries e x there) [
          | inl old ↦ is.least x old complete
          | inr new ↦ subst (λ (y : Entry). bound_of entries node ≤ y.bound) new (late (subst (λ (y : Entry). IsComplete machine ask (list_by machine y.choices)) (sym new) complete))
        ]);
      }

  none-more : HasBest machine ask entries None → ¬ IsComplete machine ask (list_by machine e.choices) → HasBest machine ask (entries ++ e ∷ []) None
  none-more known not x there = elim (Contains-push_cases entries e x there) [
    | inl old ↦ known x old
    | inr new ↦ subst (λ (y : Entry). ¬ IsComplete machine ask (list_by machine y.choices)) new not
  ]

  pub best-more : (complete : Bool) (best : Option ℕ) → (IsTrue complete ↔ IsComplete machine ask (list_by machine e.choices)) → HasBest machine ask entries best
      → HasBest machine ask (entries ++ e ∷ []) (better entries complete e.bound (length entries) best)
  best-more false None exactly known = none-more known (λ is. absurd (false≢true (exactly.1 is)))
  best-more false (Some node) exactly known = best-old node known (λ is. absurd (false≢true (exactly.1 is)))
  best-more true None exactly known = best-new (λ x there is. absurd (known x there is)) (exactly.0 refl)
  best-more true (Some node) exactly known = go (nat_lt e.bound (bound_of entries node)) refl where
    go : (sooner : Bool) → nat_lt e.bound (bound_of entries node) ≡ sooner → HasBest machine ask (entries ++ e ∷ []) (if sooner then Some (length entries) else Some node)
    go true is = best-new (λ x there complete. (let l = ltb-true e.bound (bound_of entries node) is in let m = known.least x there complete in omega arith)) (exactly.0 refl)
    go false is = best-old node known (λ complete. (let l = ltb-false e.bound (bound_of entries node) is in omega arith))
