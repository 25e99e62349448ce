-- Names that are added one by one stay different.
use Rattle.std.proofs.Common.{◌≡◌, ℕ, Bool, true, false, not, ◌&&◌, List, [], ◌∷◌, ◌++◌, refl, ◌∙◌, arith}
use Rattle.std.specs.Str.{bytes_eq}
use Rattle.std.specs.Cmp.Lexicographic.{nat_list_eq_equiv}
use Rattle.tp_machine_text.specs.Words.{is_among}

-- none of the texts is among the names
abbrev pub are_new : List (List ℕ) → List (List ℕ) → Bool
are_new names [] = true
are_new names (text ∷ texts) = not (is_among names text) && are_new names texts

among_last : (names : List (List ℕ)) (y t : List ℕ) → is_among names t ≡ false → bytes_eq y t ≡ false → is_among (names ++ y ∷ []) t ≡ false
among_last [] y t old other = let e : bytes_eq t y ≡ false = nat_list_eq_equiv.symm t y ∙ other in grind arith
among_last (x ∷ xs) y t old other =
    let here : bytes_eq t x ≡ false = grind arith in
    let there : is_among xs t ≡ false = grind arith in
    let rest = among_last xs y t there other in
    grind arith

pub still_new : (names : List (List ℕ)) (y : List ℕ) (texts : List (List ℕ)) → are_new names texts ≡ true → is_among texts y ≡ false → are_new (names ++ y ∷ []) texts ≡ true
still_new names y [] new other = refl
still_new names y (t ∷ texts) new other =
    let old : is_among names t ≡ false = grind arith in
    let apart : bytes_eq y t ≡ false = grind arith in
    let last = among_last names y t old apart in
    let rest = still_new names y texts (grind arith) (grind arith) in
    rw (last, rest)

pub new_at_first : (texts : List (List ℕ)) → are_new [] texts ≡ true
new_at_first [] = refl
new_at_first (t ∷ texts) = new_at_first texts

pub ruleset fresh = (still_new, new_at_first)
