-- Rows that are cut from one list.
use Rattle.std.proofs.Common.{◌≡◌, ℕ, zero, suc, ◌-◌, ◌<◌, ◌≤◌, List, [], ◌∷◌, ◌++◌, length, take, drop, map, refl, ap, ◌∙◌, arith, Some}
use Rattle.std.specs.Prelude.{slice_get, slice_index, slice_range}
use Rattle.std.proofs.lemmas.List.{drop-append-le, drop-map, length-append, length-drop, take-append-le, take-map}
use Rattle.std.proofs.Math.Seq.{drop-append_seam, take-length}
use Rattle.tp_windows.specs.RowLists.{AreRising, rows_from, start_of}
use Rattle.tp_windows.specs.declared.gaps.KeptHold.{KeptHold}

pub length-rows : (holds : List KeptHold) (from : ℕ) (ends : List ℕ) → length (rows_from holds from ends) ≡ length ends
length-rows holds from [] = refl
length-rows holds from (e ∷ ends) = let n = length-rows holds e ends in omega (arith, n)

pub row_there : (holds : List KeptHold) (from : ℕ) (ends : List ℕ) (at : ℕ) → at < length ends → slice_get (rows_from holds from ends) at ≡ Some (slice_range holds (start_of from ends at) (slice_index ends at))
row_there holds from [] at less = absurd (omega (arith, less))
row_there holds from (e ∷ ends) zero less = refl
row_there holds from (e ∷ ends) (suc zero) less = row_there holds e ends zero (omega (arith, less))
row_there holds from (e ∷ ends) (suc (suc at)) less = row_there holds e ends (suc at) (omega (arith, less))

pub rises : (from : ℕ) (ends : List ℕ) (last at : ℕ) → AreRising from ends last → at < length ends → (start_of from ends at ≤ slice_index ends at) × (slice_index ends at ≤ last)
rises from [] last at rising less = absurd (omega (arith, less))
rises from (e ∷ ends) last zero rising less = (rising.0, within e ends rising.1) where
  within : (f : ℕ) (es : List ℕ) → AreRising f es last → f ≤ last
  within f [] rising = rising
  within f (x ∷ es) rising = let a = rising.0 in let b = within x es rising.1 in omega (arith, a, b)
rises from (e ∷ ends) last (suc zero) rising less = rises e ends last zero rising.1 (omega (arith, less))
rises from (e ∷ ends) last (suc (suc at)) rising less = rises e ends last (suc at) rising.1 (omega (arith, less))

-- the rows of a list that is mapped
pub rows-map : (f : KeptHold → KeptHold) (holds : List KeptHold) (from : ℕ) (ends : List ℕ) → rows_from (map f holds) from ends ≡ map (map f) (rows_from holds from ends)
rows-map f holds from [] = refl
rows-map f holds from (e ∷ ends) =
    (λ i. slice_is i ∷ rows-map f holds e ends i)
  where
    slice_is : slice_range (map f holds) from e ≡ map f (slice_range holds from e)
    slice_is = ap (take (e - from)) (drop-map f from holds) ∙ take-map f (e - from) (drop from holds)

-- the last place is this one
abbrev pub IsCutTo : ℕ → List ℕ → ℕ → Type 0
IsCutTo from [] last = from ≡ last
IsCutTo from (e ∷ ends) last = (from ≤ e) × IsCutTo e ends last

pub rising_of : (from : ℕ) (ends : List ℕ) (last more : ℕ) → IsCutTo from ends last → last ≤ more → AreRising from ends more
rising_of from [] last more cut le = omega (arith, cut, le)
rising_of from (e ∷ ends) last more cut le = (cut.0, rising_of e ends last more cut.1 le)

pub cut_push : (from : ℕ) (ends : List ℕ) (last more : ℕ) → IsCutTo from ends last → last ≤ more → IsCutTo from (ends ++ more ∷ []) more
cut_push from [] last more cut le = (omega (arith, cut, le), refl)
cut_push from (e ∷ ends) last more cut le = (cut.0, cut_push e ends last more cut.1 le)

reaches : (from : ℕ) (ends : List ℕ) (last : ℕ) → IsCutTo from ends last → from ≤ last
reaches from [] last cut = omega (arith, cut)
reaches from (e ∷ ends) last cut = let a = cut.0 in let b = reaches e ends last cut.1 in omega (arith, a, b)

slice-left : (holds row : List KeptHold) (from e : ℕ) → from ≤ e → e ≤ length holds → slice_range (holds ++ row) from e ≡ slice_range holds from e
slice-left holds row from e le within =
    let long = length-drop from holds in
    ap (take (e - from)) (drop-append-le from holds row (omega (arith, le, within))) ∙ take-append-le (e - from) (drop from holds) row (omega (arith, le, within, long))

slice-right : (holds row : List KeptHold) (from : ℕ) → from ≡ length holds → slice_range (holds ++ row) from (length (holds ++ row)) ≡ row
slice-right holds row from is =
    let long = length-append holds row in
    let count : length (holds ++ row) - from ≡ length row = omega (arith, long, is) in
    ap (λ n. take (length (holds ++ row) - from) (drop n (holds ++ row))) is ∙ ap (take (length (holds ++ row) - from)) (drop-append_seam holds row) ∙ ap (λ n. take n row) count ∙ take-length row

-- one row more
pub rows_push : (holds row : List KeptHold) (from : ℕ) (ends : List ℕ) → IsCutTo from ends (length holds) → rows_from (holds ++ row) from (ends ++ length (holds ++ row) ∷ []) ≡ rows_from holds from ends ++ row ∷ []
rows_push holds row from [] cut = ap (λ r. r ∷ []) (slice-right holds row from cut)
rows_push holds row from (e ∷ ends) cut = λ i. slice-left holds row from e cut.0 (reaches e ends (length holds) cut.1) i ∷ rows_push holds row e ends cut.1 i
