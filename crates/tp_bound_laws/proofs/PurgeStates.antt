-- The goal states of a purge: those at one location more.
use Rattle.std.proofs.Common.{◌≡◌, ℕ, ◌+◌, Bool, true, false, cond, List, [], ◌∷◌, ◌++◌, filter, flat_map, refl, ap, sym, add-one, ◌∙◌}
use Rattle.std.proofs.lemmas.List.{append-nil}
use Rattle.std.proofs.lemmas.List.Elements.{filter-append}
use Rattle.std.proofs.lemmas.Grind.{flat_map-append}
use Rattle.tp_machine.specs.declared.parts.LocId.{LocId}
use Rattle.tp_machine.specs.declared.parts.Sheet.{Sheet}
use Rattle.tp_machine.specs.declared.parts.State.{State}
use Rattle.tp_machine.specs.declared.machine.Machine.{Machine}
use Rattle.tp_bound_laws.specs.Places.{is_done_wanted, is_purge, locations_below, states_at}

-- the goal states of a purge at the locations below a number
abbrev pub purges_below : Machine → Sheet → ℕ → List State
purges_below machine sheet n = filter (is_done_wanted sheet) (flat_map states_at (filter (is_purge machine) (locations_below n)))

abbrev pub purges_at : Machine → Sheet → LocId → List State
purges_at machine sheet loc = cond (is_purge machine loc) (filter (is_done_wanted sheet) (states_at loc)) []

pub purges-more : (machine : Machine) (sheet : Sheet) (n : ℕ) (now new : List State) → now ≡ purges_below machine sheet n → new ≡ now ++ purges_at machine sheet (record { 0 = n })
    → new ≡ purges_below machine sheet (n + 1)
purges-more machine sheet n now new was is =
    is ∙ ap (λ xs. xs ++ purges_at machine sheet (record { 0 = n })) was ∙ ap (λ xs. purges_below machine sheet n ++ xs) (one (is_purge machine (record { 0 = n })))
    ∙ sym (ap (filter (is_done_wanted sheet)) (ap (flat_map states_at) (filter-append (is_purge machine) (locations_below n) (record { 0 = n } ∷ [])) ∙ flat_map-append states_at (filter (is_purge machine) (locations_below n)) (filter (is_purge machine) (record { 0 = n } ∷ [])))
    ∙ filter-append (is_done_wanted sheet) (flat_map states_at (filter (is_purge machine) (locations_below n))) (flat_map states_at (filter (is_purge machine) (record { 0 = n } ∷ []))))
    ∙ ap (purges_below machine sheet) (sym (add-one n))
  where
    one : (b : Bool) → cond b (filter (is_done_wanted sheet) (states_at (record { 0 = n }))) [] ≡ filter (is_done_wanted sheet) (flat_map states_at (cond b (record { 0 = n } ∷ []) []))
    one true = ap (filter (is_done_wanted sheet)) (sym (append-nil (states_at (record { 0 = n }))))
    one false = refl
