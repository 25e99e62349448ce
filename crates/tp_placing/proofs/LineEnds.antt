-- The last plan of a line before a place.
use Rattle.std.proofs.Common.{◌≡◌, ℕ, ◌+◌, ◌-◌, ◌<◌, ◌≤◌, List, ◌∷◌, All, drop, get_or, length, take, ap, sym, ◌∙◌, subst, arith, Some}
use Rattle.std.specs.Prelude.{slice_get}
use Rattle.std.proofs.lemmas.List.{get_or-take, length-take-le}
use Rattle.std.proofs.lemmas.List.Elements.{All-cons}
use Rattle.std.proofs.lemmas.Option.{same_Some, slice_get-get_or}
use Rattle.tp_placing.proofs.LoadHolds.{drop-get}

-- one element more at the front of what is left
pub drop-before : {X : Type 0} (P : X → Type 0) (xs : List X) (left : ℕ) (x : X) → 0 < left → slice_get xs (left - 1) ≡ Some x → P x → All P (drop left xs) → All P (drop (left - 1) xs)
drop-before P xs left x some at one all =
    let next : left - 1 + 1 ≡ left = omega arith in
    subst (All P) (sym (drop-get xs (left - 1) x at ∙ ap (λ k. x ∷ drop k xs) next)) (All-cons P x (drop left xs) one all)

-- what was read is there
pub read-at : {X : Type 0} (xs : List X) (i : ℕ) (x : X) → i < length xs → x ≡ get_or xs i x → slice_get xs i ≡ Some x
read-at xs i x within is = slice_get-get_or xs i x within ∙ ap Some (sym is)

pub read-is : {X : Type 0} (xs : List X) (i : ℕ) (x y : X) → i < length xs → x ≡ get_or xs i x → slice_get xs i ≡ Some y → x ≡ y
read-is xs i x y within is at = same_Some x y (sym (read-at xs i x within is) ∙ at)

pub read-before : {X : Type 0} (xs : List X) (at i : ℕ) (x : X) → i < at → at ≤ length xs → x ≡ get_or xs i x → slice_get (take at xs) i ≡ Some x
read-before xs at i x less within is =
    let n = length-take-le at xs within in
    slice_get-get_or (take at xs) i x (omega arith) ∙ ap Some (get_or-take at xs i x less ∙ sym is)

pub read-one : {X : Type 0} (xs : List X) (i : ℕ) (x y : X) → i < length xs → x ≡ get_or xs i x → y ≡ get_or xs i y → x ≡ y
read-one xs i x y within a b = read-is xs i x y within a (read-at xs i y within b)
