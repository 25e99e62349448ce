-- Words that ask for soaking give a number.
use Rattle.std.proofs.Common.{◌≡◌, ℕ, Bool, true, false, ◌&&◌, List, [], ◌∷◌, Option, Some, None, option_and_then, option_map, refl, sym, subst}
use Rattle.std.specs.Prelude.{IsSome, ◌==◌, if◌then◌else◌, nat_le}
use Rattle.tp_command.specs.Form.{Asked, Text, Told, asked_at, asked_by, asked_with, budget_of, form, free, is_arg, mode_of, nothing_told, seed_in, told_by}
use Rattle.tp_command.specs.declared.request.Mode.{Mode}
use Rattle.tp_command.specs.declared.request.Mode.TheVariants.{Soak}

with_tests : (b c : Bool) (o : Option (Option ℕ)) (make : Option ℕ → Asked) (asked : Asked) → (if b && c then option_map make o else None) ≡ Some asked
    → (b ≡ true) × ((budget : Option ℕ) × (asked ≡ make budget))
with_tests true true (Some budget) make asked e = (refl, (budget, cc))
with_tests true true None make asked e = absurd cc
with_tests true false o make asked e = absurd cc
with_tests false c o make asked e = absurd cc

-- the mode takes its ARG
takes_arg : (arg : Text) (bounds : ℕ) (budgets : List Text) (mode : Mode) (asked : Asked) → asked_with arg bounds budgets mode ≡ Some asked → is_arg asked.mode asked.arg ≡ true
takes_arg arg bounds budgets mode asked e =
    let (is, (budget, made)) =
    with_tests (is_arg mode arg) (nat_le bounds 1) (budget_of budgets) (λ budget. record { mode = mode; arg = arg; bounds = bounds == 1; budget = budget }) asked e
    in subst (λ (a : Asked). is_arg a.mode a.arg ≡ true) (sym made) is

at_places : (places : List Text) (bounds : ℕ) (budgets : List Text) (asked : Asked) → asked_at places bounds budgets ≡ Some asked → is_arg asked.mode asked.arg ≡ true
at_places [] bounds budgets asked e = absurd cc
at_places (mode ∷ []) bounds budgets asked e = absurd cc
at_places (mode ∷ arg ∷ place ∷ places) bounds budgets asked e = absurd cc
at_places (mode ∷ arg ∷ []) bounds budgets asked e = go (mode_of mode) e
  where
    go : (named : Option Mode) → option_and_then (asked_with arg bounds budgets) named ≡ Some asked → is_arg asked.mode asked.arg ≡ true
    go None e = absurd cc
    go (Some mode) e = takes_arg arg bounds budgets mode asked e

by_told : (told : Option Told) (asked : Asked) → option_and_then asked_by told ≡ Some asked → is_arg asked.mode asked.arg ≡ true
by_told None asked e = absurd cc
by_told (Some t) asked e = at_places t.places t.bounds t.budgets asked e

pub gives_seed : (words : List Text) (asked : Asked) → form words ≡ Some asked → asked.mode ≡ Soak → IsSome (seed_in asked.arg)
gives_seed words asked named is = subst (λ mode. is_arg mode asked.arg ≡ true) is (by_told (told_by free nothing_told words) asked named)
