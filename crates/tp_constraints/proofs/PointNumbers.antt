-- The numbers of a table's points.
use Rattle.std.proofs.Common.{◌≡◌, ◌≢◌, ℕ, zero, suc, Bool, true, false, cond, ◌&&◌, List, [], ◌∷◌, refl, arith, All, AllPairs, ap, subst, Some}
use Rattle.std.specs.Prelude.{slice_get, ◌==◌}
use Rattle.std.proofs.lemmas.List.Elements.{All-head, All-tail}
use Rattle.std.proofs.lemmas.Bool.Decides.{nat_tests}
use Rattle.tp_schedule.specs.Plans.{is_same_copy}
use Rattle.tp_schedule.specs.Spots.{Spot}
use Rattle.tp_schedule.specs.Spots.Spot.{kept, own}
use Rattle.tp_schedule.proofs.Pairs.{AllPairs-head, AllPairs-tail}
use Rattle.tp_constraints.specs.Numbers.{is_same_spot, number}
use Rattle.tp_schedule.proofs.CopyFacts.{same_copy-refl, same_copy-is}

pub same_spot-refl : (s : Spot) → is_same_spot s s ≡ true
same_spot-refl (kept c i) = let e = same_copy-refl c in let f : (i == i) ≡ true = grind (arith, nat_tests) in rw (e, f) refl
same_spot-refl (own n) = grind (arith, nat_tests)

pub same_spot-is : (a b : Spot) → is_same_spot a b ≡ true → a ≡ b
same_spot-is (kept c i) (kept d j) e = go (is_same_copy c d) (i == j) refl refl e where
  go : (a b : Bool) → is_same_copy c d ≡ a → (i == j) ≡ b → (a && b) ≡ true → kept c i ≡ kept d j
  go true true x y z = let p : c ≡ d = same_copy-is c d x in let q : i ≡ j = grind (arith, nat_tests) in rw (p, q) refl
  go true false x y z = absurd cc
  go false b x y z = absurd cc
same_spot-is (kept c i) (own n) e = absurd cc
same_spot-is (own m) (kept d j) e = absurd cc
same_spot-is (own m) (own n) e = let q : m ≡ n = grind (arith, nat_tests) in rw q refl

-- the number of the point at a place is that place
pub number-at : (table : List Spot) → AllPairs (λ a b. a ≢ b) table → (i : ℕ) (s : Spot) → slice_get table i ≡ Some s → number table s ≡ i
number-at [] differ i s e = absurd cc
number-at (x ∷ xs) differ zero s e = let same : x ≡ s = cc in let e' : is_same_spot x s ≡ true = subst (λ y. is_same_spot x y ≡ true) same (same_spot-refl x) in rw e' refl
number-at (x ∷ xs) differ (suc i) s e =
    go (is_same_spot x s) refl (number-at xs (AllPairs-tail (λ a b. a ≢ b) x xs differ) i s e) where
      go : (b : Bool) → is_same_spot x s ≡ b → number xs s ≡ i → cond b 0 (suc (number xs s)) ≡ suc i
      go true is-so rest = absurd (All-at xs i s e (AllPairs-head (λ a b. a ≢ b) x xs differ) (same_spot-is x s is-so)) where
        All-at : (ys : List Spot) (k : ℕ) (y : Spot) → slice_get ys k ≡ Some y → All (λ b. x ≢ b) ys → x ≢ y
        All-at [] k y is all = absurd cc
        All-at (z ∷ ys) zero y is all = let same : z ≡ y = cc in subst (λ b. x ≢ b) same (All-head (λ b. x ≢ b) z ys all)
        All-at (z ∷ ys) (suc k) y is all = All-at ys k y is (All-tail (λ b. x ≢ b) z ys all)
      go false is-not rest = ap suc rest
