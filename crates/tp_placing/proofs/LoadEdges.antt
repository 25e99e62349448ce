-- Edges that are added to a list in parts, within its room.
use Rattle.std.proofs.Common.{◌≡◌, ℕ, ◌+◌, ◌<◌, ◌≤◌, List, ◌∷◌, ◌++◌, length, drop, get_or, ap, sym, arith, ◌∙◌}
use Rattle.std.proofs.lemmas.List.{append_assoc, length-append, drop_more}

-- there is room for the first of what is left, where there is for all
pub first-fits : {X : Type 0} (xs base es rest left whole : List X) (len begun room wider : ℕ) → len ≡ length xs → begun ≡ length base → xs ++ left ≡ base ++ whole → left ≡ es ++ rest → begun + length whole ≤ room → room ≤ wider → len + length es ≤ wider
first-fits xs base es rest left whole len begun room wider l b same is enough wide =
    let e = ap length same in
    let m = length-append xs left in
    let n = length-append base whole in
    let p = ap length is ∙ length-append es rest in
    omega arith

-- once they are added, the others are left
pub rest-left : {X : Type 0} (xs next es rest left whole : List X) → next ≡ xs ++ es → left ≡ es ++ rest → xs ++ left ≡ whole → next ++ rest ≡ whole
rest-left xs next es rest left whole added is same = ap (λ ys. ys ++ rest) added ∙ append_assoc xs es rest ∙ ap (λ zs. xs ++ zs) (sym is) ∙ same

-- the element that a loop reads is the first of what is left
pub drop-read : {X : Type 0} (xs : List X) (i : ℕ) (x : X) → i < length xs → x ≡ get_or xs i x → drop i xs ≡ x ∷ drop (i + 1) xs
drop-read xs i x within read = drop_more xs i x within ∙ ap (λ y. y ∷ drop (i + 1) xs) (sym read)
