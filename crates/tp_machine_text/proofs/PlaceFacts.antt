-- The place of a name among names: it is within them, and two known names have one place where they are the same.
use Rattle.std.proofs.Common.{◌≡◌, ℕ, true, ◌==◌, List, [], ◌∷◌, length, map, Some, slice_get, refl, ap, sym, ◌∙◌, arith, inl, inr}
use Rattle.std.specs.Prelude.{nat_lt}
use Rattle.std.specs.List.{list_all}
use Rattle.std.specs.Str.{bytes_eq}
use Rattle.std.specs.Cmp.Lexicographic.{nat_list_eq_equiv}
use Rattle.std.proofs.lemmas.Bool.{cases_Bool}
use Rattle.std.proofs.lemmas.Bool.Decides.{nat_tests}
use Rattle.std.proofs.lemmas.Slice.Eq.{bytes_eq-Decides}
use Rattle.tp_machine.specs.Rules as machine
use Rattle.tp_machine_text.specs.Words.{is_among, are_different}
use Rattle.tp_machine_text.specs.TheMachine.{place_in, loc_of}

pub place_known : (names : List (List ℕ)) (text : List ℕ) → is_among names text ≡ true → nat_lt (place_in names text) (length names) ≡ true
place_known [] text known = cc
place_known (n ∷ names) text known =
    elim (cases_Bool (bytes_eq text n)) [
      | inl same ↦ rw same (grind (arith, nat_tests))
      | inr other ↦
          let rest = place_known names text (grind arith) in
          rw other (grind (arith, nat_tests))
    ]

same_text : (a b : List ℕ) → bytes_eq a b ≡ true → a ≡ b
same_text a b same = (bytes_eq-Decides a b).0 same

pub place_named : (names : List (List ℕ)) (text : List ℕ) → is_among names text ≡ true → slice_get names (place_in names text) ≡ Some text
place_named [] text known = cc
place_named (n ∷ names) text known =
    elim (cases_Bool (bytes_eq text n)) [
      | inl same ↦ rw same (ap Some (sym (same_text text n same)))
      | inr other ↦ rw other (place_named names text (grind arith))
    ]

-- the same place, told by the second name
pub same_place : (names : List (List ℕ)) (a b : List ℕ) → is_among names a ≡ true → is_among names b ≡ true → (place_in names a == place_in names b) ≡ bytes_eq b a
same_place [] a b ka kb = cc
same_place (n ∷ names) a b ka kb =
    elim (cases_Bool (bytes_eq a n)) [
      | inl at_a ↦
          let e : bytes_eq b a ≡ bytes_eq b n = nat_list_eq_equiv.symm b a ∙ nat_list_eq_equiv.congr a n b at_a ∙ nat_list_eq_equiv.symm n b in
          elim (cases_Bool (bytes_eq b n)) [
            | inl at_b ↦ rw (at_a, at_b, e, at_b)
            | inr off_b ↦ rw (at_a, off_b, e, off_b) (grind (arith, nat_tests))
          ]
      | inr off_a ↦
          elim (cases_Bool (bytes_eq b n)) [
            | inl at_b ↦
                let e : bytes_eq b a ≡ bytes_eq a n = nat_list_eq_equiv.congr b n a at_b ∙ nat_list_eq_equiv.symm n a in
                rw (off_a, at_b, e, off_a) (grind (arith, nat_tests))
            | inr off_b ↦
                let rest = same_place names a b (grind arith) (grind arith) in
                rw (off_a, off_b, ← rest) (grind (arith, nat_tests))
          ]
    ]

pub loc_among : (names xs : List (List ℕ)) (y : List ℕ) → list_all (is_among names) xs ≡ true → is_among names y ≡ true → machine.is_among (map (loc_of names) xs) (loc_of names y) ≡ is_among xs y
loc_among names [] y known ky = refl
loc_among names (x ∷ xs) y known ky =
    let here : is_among names x ≡ true = grind arith in
    rw (same_place names x y here ky, loc_among names xs y (grind arith) ky)

pub locs_known : (names xs : List (List ℕ)) → list_all (is_among names) xs ≡ true → machine.are_locations names (map (loc_of names) xs) ≡ true
locs_known names [] known = refl
locs_known names (x ∷ xs) known =
    let here : is_among names x ≡ true = grind arith in
    rw (place_known names x here, locs_known names xs (grind arith))

pub locs_differ : (names xs : List (List ℕ)) → list_all (is_among names) xs ≡ true → machine.are_different (map (loc_of names) xs) ≡ are_different xs
locs_differ names [] known = refl
locs_differ names (x ∷ xs) known =
    let here : is_among names x ≡ true = grind arith in
    let rest : list_all (is_among names) xs ≡ true = grind arith in
    rw (loc_among names xs x rest here, locs_differ names xs rest)
