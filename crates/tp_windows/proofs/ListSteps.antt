-- Lists that are read or written one element after another.
use Rattle.std.proofs.Common.{◌≡◌, ℕ, suc, ◌+◌, ◌<◌, List, [], ◌∷◌, ◌++◌, length, take, drop, get_or, map, ap, ◌∙◌, All, subst, sym, Some, arith}
use Rattle.std.specs.Prelude.{slice_get, slice_set}
use Rattle.std.proofs.Math.Seq.{take-suc-set}
use Rattle.std.proofs.lemmas.List.{take_more}
use Rattle.std.proofs.lemmas.List.Edits.{map_over_more}
use Rattle.std.proofs.lemmas.List.Elements.{All-push}
use Rattle.std.proofs.lemmas.Option.{get_or_from_slice_get, slice_get-get_or, slice_get_within}

-- what is taken with the next element
pub take_next : {X : Type 0} (xs : List X) (n : ℕ) (x : X) → slice_get xs n ≡ Some x → take (n + 1) xs ≡ take n xs ++ x ∷ []
take_next xs n x at = take_more xs n x (slice_get_within xs n x at) ∙ ap (λ y. take n xs ++ y ∷ []) (get_or_from_slice_get xs n x x at)

pub all_next : {X : Type 0} (P : X → Type 0) (xs : List X) (n : ℕ) (x : X) → slice_get xs n ≡ Some x → All P (take n xs) → P x → All P (take (n + 1) xs)
all_next P xs n x at all one = subst (All P) (sym (take_next xs n x at)) (All-push P (take n xs) x all one)

-- the next element is written
pub all_written : {X : Type 0} (P : X → Type 0) (xs : List X) (n : ℕ) (x : X) → n < length xs → All P (take n xs) → P x → All P (take (n + 1) (slice_set xs n x))
all_written P xs n x less all one =
    let next : n + 1 ≡ suc n = omega arith in
    subst (All P) (sym (ap (λ k. take k (slice_set xs n x)) next ∙ take-suc-set xs n x less)) (All-push P (take n xs) x all one)

pub map_written : {X : Type 0} (f : X → X) (xs ys : List X) (n : ℕ) (d y : X) → n < length xs → length ys ≡ length xs → ys ≡ map f (take n xs) ++ drop n xs → y ≡ f (get_or ys n d) → slice_set ys n y ≡ map f (take (n + 1) xs) ++ drop (n + 1) xs
map_written f xs ys n d y less same is value =
    let x = get_or ys n d in
    let at = slice_get-get_or ys n d (omega (arith, less, same)) in
    ap (slice_set ys n) value ∙ map_over_more f xs ys n x less is (sym (get_or_from_slice_get ys n x x at))
