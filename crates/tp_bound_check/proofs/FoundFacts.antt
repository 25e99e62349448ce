-- Holds of an order by their starts, as the order grows.
use Rattle.std.proofs.Common.{◌≡◌, ℕ, zero, suc, ◌+◌, Bool, true, false, cond, leb, ltb, min, List, [], ◌∷◌, length, insert, refl, sym, ◌∙◌, ap, arith, Option, Some, None, option_map}
use Rattle.std.proofs.lemmas.Bool.Decides.{nat_tests}
use Rattle.tp_constraints.specs.Numbers.{is_same_spot}
use Rattle.tp_schedule.specs.Spots.{Slot, Spot}
use Rattle.tp_bound_check.specs.Founds.{earlier, found_in, next_found, put_found, shifted}
use Rattle.tp_bound_check.specs.declared.found.Found.{Found}

-- ---- a hold more
none-less : (n : ℕ) → ltb n 0 ≡ false
none-less n = grind (arith, nat_tests)

from-zero : (n : ℕ) → leb 0 n ≡ true
from-zero n = grind (arith, nat_tests)

none-above : (n : ℕ) → leb (suc n) 0 ≡ false
none-above n = grind (arith, nat_tests)

less-first : (n : ℕ) → ltb 0 (suc n) ≡ true
less-first n = grind (arith, nat_tests)

less-next : (m n : ℕ) → ltb (suc m) (suc n) ≡ ltb m n
less-next m n = grind (arith, nat_tests)

le-next : (m n : ℕ) → leb (suc m) (suc n) ≡ leb m n
le-next m n = grind (arith, nat_tests)

put-first : (start : Spot) (s : Slot) (o : Option Found) → cond (is_same_spot s.from start) (Some (record { at = 0; slot = s })) (option_map next_found o) ≡ put_found start 0 s o
put-first start s o = go (is_same_spot s.from start) o where
  go : (b : Bool) (o : Option Found) → cond b (Some (record { at = 0; slot = s })) (option_map next_found o) ≡ cond b (earlier 0 s o) (option_map (shifted 0) o)
  go true None = refl
  go true (Some f) = ap (λ t. cond t (Some (record { at = 0; slot = s })) (Some f)) (sym (from-zero f.at))
  go false None = refl
  go false (Some f) = ap (λ t. Some (cond t f (next_found f))) (sym (none-less f.at))

put-later : (start : Spot) (n : ℕ) (s x : Slot) (o : Option Found)
    → cond (is_same_spot x.from start) (Some (record { at = 0; slot = x })) (option_map next_found (put_found start n s o))
    ≡ put_found start (suc n) s (cond (is_same_spot x.from start) (Some (record { at = 0; slot = x })) (option_map next_found o))
put-later start n s x o = go (is_same_spot x.from start) (is_same_spot s.from start) o where
  when : (b : Bool) (f : Found) → option_map next_found (cond b (Some (record { at = n; slot = s })) (Some f)) ≡ cond b (Some (record { at = suc n; slot = s })) (Some (next_found f))
  when true f = refl
  when false f = refl

  move : (b : Bool) (f : Found) → option_map next_found (Some (cond b f (next_found f))) ≡ Some (cond b (next_found f) (next_found (next_found f)))
  move true f = refl
  move false f = refl

  go : (b c : Bool) (o : Option Found)
      → cond b (Some (record { at = 0; slot = x })) (option_map next_found (cond c (earlier n s o) (option_map (shifted n) o)))
      ≡ cond c (earlier (suc n) s (cond b (Some (record { at = 0; slot = x })) (option_map next_found o))) (option_map (shifted (suc n)) (cond b (Some (record { at = 0; slot = x })) (option_map next_found o)))
  go true true o = ap (λ t. cond t (Some (record { at = suc n; slot = s })) (Some (record { at = 0; slot = x }))) (sym (none-above n))
  go true false o = ap (λ t. Some (cond t (record { at = 0; slot = x }) (next_found (record { at = 0; slot = x })))) (sym (less-first n))
  go false true None = refl
  go false true (Some f) = when (leb n f.at) f ∙ ap (λ t. cond t (Some (record { at = suc n; slot = s })) (Some (next_found f))) (sym (le-next n f.at))
  go false false None = refl
  go false false (Some f) = move (ltb f.at n) f ∙ ap (λ t. Some (cond t (next_found f) (next_found (next_found f)))) (sym (less-next f.at n))

pub found-insert : (start : Spot) (xs : List Slot) (i : ℕ) (s : Slot) → found_in start (insert xs i s) ≡ put_found start (min i (length xs)) s (found_in start xs)
found-insert start [] zero s = put-first start s None
found-insert start [] (suc i) s = let m : min (suc i) (length {A = Slot} []) ≡ 0 = omega arith in put-first start s None ∙ ap (λ k. put_found start k s None) (sym m)
found-insert start (x ∷ xs) zero s = let m : min 0 (length (x ∷ xs)) ≡ 0 = omega arith in put-first start s (found_in start (x ∷ xs)) ∙ ap (λ k. put_found start k s (found_in start (x ∷ xs))) (sym m)
found-insert start (x ∷ xs) (suc i) s =
    let m : min (suc i) (length (x ∷ xs)) ≡ suc (min i (length xs)) = omega arith in
    ap (λ o. cond (is_same_spot x.from start) (Some (record { at = 0; slot = x })) (option_map next_found o)) (found-insert start xs i s)
    ∙ put-later start (min i (length xs)) s x (found_in start xs) ∙ ap (λ k. put_found start k s (found_in start (x ∷ xs))) (sym m)

pub insert-length : (xs : List Slot) (i : ℕ) (s : Slot) → length (insert xs i s) ≡ length xs + 1
insert-length [] zero s = refl
insert-length [] (suc i) s = refl
insert-length (x ∷ xs) zero s = omega arith
insert-length (x ∷ xs) (suc i) s = let e = insert-length xs i s in omega (arith, e)
