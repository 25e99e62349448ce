-- What is left of a list from a place on.
use Rattle.std.proofs.Common.{◌≡◌, ℕ, ◌+◌, suc, List, [], ◌∷◌, ◌++◌, drop, map, slice_get, Some, ap, sym, ◌∙◌, append_assoc, drop-cons, add-one}
use Rattle.std.proofs.lemmas.Option.{slice_get_within, get_or_from_slice_get}

pub drop_from : {X : Type 0} (xs : List X) (i : ℕ) (x : X) → slice_get xs i ≡ Some x → drop i xs ≡ x ∷ drop (i + 1) xs
drop_from xs i x at =
    drop-cons xs i x (slice_get_within xs i x at)
    ∙ ap (λ y. y ∷ drop (suc i) xs) (get_or_from_slice_get xs i x x at) ∙ ap (λ j. x ∷ drop j xs) (sym (add-one i))

-- one more is done, mapped
pub one_more : {X Y : Type 0} (f : X → Y) (xs : List X) (i : ℕ) (x : X) (done all : List Y) → slice_get xs i ≡ Some x
    → done ++ map f (drop i xs) ≡ all → (done ++ f x ∷ []) ++ map f (drop (i + 1) xs) ≡ all
one_more f xs i x done all at h =
    append_assoc done (f x ∷ []) (map f (drop (i + 1) xs)) ∙ ap (λ rest. done ++ map f rest) (sym (drop_from xs i x at)) ∙ h
