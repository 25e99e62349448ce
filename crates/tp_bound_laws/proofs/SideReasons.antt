-- A reason against one place of a hold serves all places on its side.
use Rattle.std.proofs.Common.{◌≡◌, ◌≢◌, ◌⊎◌, inl, inr, ℕ, zero, suc, ◌+◌, ◌-◌, ◌≤◌, ◌<◌, Bool, true, false, cond, List, [], ◌∷◌, ◌++◌, length, insert, take, drop, refl, sym, ◌∙◌, ap, subst, arith, AllPairs, Contains, Some, None, find}
use Rattle.std.specs.Prelude.{slice_get, option_map}
use Rattle.std.proofs.lemmas.List.Elements.{All-contains}
use Rattle.tp_base.proofs.SliceFacts.{slice_get_drop}
use Rattle.tp_schedule.specs.Spots.{Slot, Spot}
use Rattle.tp_schedule.proofs.Membership.{Contains-cons_cases, Contains-here, Contains-later}
use Rattle.tp_schedule.proofs.Pairs.{AllPairs-head, AllPairs-tail}
use Rattle.tp_constraints.specs.Gaps.{slot_gap}
use Rattle.tp_constraints.specs.Numbers.{is_same_spot}
use Rattle.tp_constraints.proofs.PointNumbers.{same_spot-is}
use Rattle.tp_bound_laws.specs.Chains.{gap_behind, gap_in}
use Rattle.tp_bound_laws.proofs.AllowedHops.{gap-found}
use Rattle.tp_bound_laws.proofs.ApartStarts.{Apart}
use Rattle.tp_bound_laws.proofs.SpanFacts.{AllPairs-spanned}

-- what stands where in a list with one element more
pub insert-at : (xs : List Slot) (p i : ℕ) (s a : Slot) → p ≤ length xs → slice_get (insert xs p s) i ≡ Some a → ((i < p) × (slice_get xs i ≡ Some a)) ⊎ (((i ≡ p) × (a ≡ s)) ⊎ ((j : ℕ) × (i ≡ suc j) × (p ≤ j) × (slice_get xs j ≡ Some a)))
insert-at [] zero zero s a le e = inr (inl (refl, cc))
insert-at [] zero (suc i) s a le e = absurd cc
insert-at [] (suc p) i s a le e = absurd (omega (arith, le))
insert-at (x ∷ xs) zero zero s a le e = inr (inl (refl, cc))
insert-at (x ∷ xs) zero (suc i) s a le e = inr (inr (i, refl, omega arith, e))
insert-at (x ∷ xs) (suc p) zero s a le e = inl (omega arith, e)
insert-at (x ∷ xs) (suc p) (suc i) s a le e = elim (insert-at xs p i s a (omega arith) e) [
  | inl l ↦ inl (omega (arith, l.0), l.1)
  | inr (inl l) ↦ inr (inl (ap suc l.0, l.1))
  | inr (inr r) ↦ inr (inr (suc r.0, ap suc r.1, omega (arith, r.2), r.3))
]

-- a start that no hold of an order has is found nowhere
find-none : (slots : List Slot) (s : Spot) → ((y : Slot) → Contains slots y → y.from ≢ s) → find (λ q. is_same_spot q.from s) slots ≡ None
find-none [] s none = refl
find-none (y ∷ slots) s none = go (is_same_spot y.from s) refl (find-none slots s (λ z in'. none z (Contains-later y slots z in'))) where
  go : (b : Bool) → is_same_spot y.from s ≡ b → find (λ q. is_same_spot q.from s) slots ≡ None → cond b (Some y) (find (λ q. is_same_spot q.from s) slots) ≡ None
  go true u rest = absurd (none y (Contains-here y slots) (same_spot-is y.from s u))
  go false u rest = rest

pub gap-none_into : (width : ℕ) (slots : List Slot) (before s : Spot) → ((y : Slot) → Contains slots y → y.from ≢ s) → gap_in width before s slots ≡ None
gap-none_into width [] before s none = refl
gap-none_into width (y ∷ slots) before s none = go (is_same_spot y.from before) (gap-none_into width slots before s (λ z in'. none z (Contains-later y slots z in'))) where
  go : (b : Bool) → gap_in width before s slots ≡ None → cond b (gap_behind width y s slots) (gap_in width before s slots) ≡ None
  go true rest = ap (option_map (slot_gap width y)) (find-none slots s (λ z in'. none z (Contains-later y slots z in')))
  go false rest = rest

pub gap-none_from : (width : ℕ) (slots : List Slot) (s after : Spot) → ((y : Slot) → Contains slots y → y.from ≢ s) → gap_in width s after slots ≡ None
gap-none_from width [] s after none = refl
gap-none_from width (y ∷ slots) s after none = go (is_same_spot y.from s) refl (gap-none_from width slots s after (λ z in'. none z (Contains-later y slots z in'))) where
  go : (b : Bool) → is_same_spot y.from s ≡ b → gap_in width s after slots ≡ None → cond b (gap_behind width y after slots) (gap_in width s after slots) ≡ None
  go true u rest = absurd (none y (Contains-here y slots) (same_spot-is y.from s u))
  go false u rest = rest

-- the inserted hold starts where no other does
insert-new : (xs : List Slot) (p : ℕ) (s y : Slot) → p ≤ length xs → AllPairs Apart (insert xs p s) → Contains xs y → y.from ≢ s.from
insert-new [] p s y le pairs in' = absurd (omega (arith, in'.1))
insert-new (x ∷ xs) zero s y le pairs in' = λ e. All-contains (Apart s) (x ∷ xs) y (AllPairs-head Apart s (x ∷ xs) pairs) in' (sym e)
insert-new (x ∷ xs) (suc p) s y le pairs in' = elim (Contains-cons_cases x xs y in') [
  | inl is ↦ subst (λ (k : Slot). k.from ≢ s.from) is (All-contains (Apart x) (insert xs p s) s (AllPairs-head Apart x (insert xs p s) pairs) (has xs p (omega arith)))
  | inr later ↦ insert-new xs p s y (omega arith) (AllPairs-tail Apart x (insert xs p s) pairs) later
] where
  has : (zs : List Slot) (q : ℕ) → q ≤ length zs → Contains (insert zs q s) s
  has [] zero h = Contains-here s []
  has [] (suc q) h = absurd (omega (arith, h))
  has (z ∷ zs) zero h = Contains-here s (z ∷ zs)
  has (z ∷ zs) (suc q) h = Contains-later z (insert zs q s) s (has zs q (omega arith))

-- where the holds stand in the order of a span
front-at : (xs : List Slot) (lo i : ℕ) (a s : Slot) (rest : List Slot) → i < lo → slice_get xs i ≡ Some a → slice_get (take lo xs ++ s ∷ rest) i ≡ Some a
front-at [] lo i a s rest below e = absurd cc
front-at (x ∷ xs) zero i a s rest below e = absurd (omega (arith, below))
front-at (x ∷ xs) (suc lo) zero a s rest below e = e
front-at (x ∷ xs) (suc lo) (suc i) a s rest below e = front-at xs lo i a s rest (omega arith) e

hold-at : (xs : List Slot) (lo : ℕ) (s : Slot) (rest : List Slot) → lo ≤ length xs → slice_get (take lo xs ++ s ∷ rest) lo ≡ Some s
hold-at xs zero s rest le = refl
hold-at [] (suc lo) s rest le = absurd (omega (arith, le))
hold-at (x ∷ xs) (suc lo) s rest le = hold-at xs lo s rest (omega arith)

behind-at : (xs : List Slot) (lo j : ℕ) (a s : Slot) (rest : List Slot) → lo ≤ length xs → slice_get rest j ≡ Some a → slice_get (take lo xs ++ s ∷ rest) (lo + suc j) ≡ Some a
behind-at xs zero j a s rest le e = let n : 0 + suc j ≡ suc j = omega arith in rw n e
behind-at [] (suc lo) j a s rest le e = absurd (omega (arith, le))
behind-at (x ∷ xs) (suc lo) j a s rest le e = let n : suc lo + suc j ≡ suc (lo + suc j) = omega arith in rw n (behind-at xs lo j a s rest (omega arith) e)

-- the hold and those before or behind it
module _ (width : ℕ) (xs : List Slot) (p lo hi : ℕ) (s : Slot) (from : lo ≤ p) (until : p ≤ hi) (within : hi ≤ length xs) (pairs : AllPairs Apart (insert xs p s)) where
  spanned-apart : AllPairs Apart (take lo xs ++ s ∷ drop hi xs)
  spanned-apart = AllPairs-spanned Apart xs s p lo hi from until within pairs

  pub into-found : (i : ℕ) (a : Slot) → i < lo → slice_get xs i ≡ Some a → gap_in width a.from s.from (take lo xs ++ s ∷ drop hi xs) ≡ Some (slot_gap width a s)
  into-found i a below e = gap-found width (take lo xs ++ s ∷ drop hi xs) i lo a s spanned-apart below (front-at xs lo i a s (drop hi xs) below e) (hold-at xs lo s (drop hi xs) (omega arith))

  pub from-found : (j : ℕ) (b : Slot) → hi ≤ j → slice_get xs j ≡ Some b → gap_in width s.from b.from (take lo xs ++ s ∷ drop hi xs) ≡ Some (slot_gap width s b)
  from-found j b le e =
      let k : j ≡ hi + (j - hi) = omega arith in
      let at : slice_get (drop hi xs) (j - hi) ≡ Some b = slice_get_drop hi xs (j - hi) ∙ ap (slice_get xs) (sym k) ∙ e in
      gap-found width (take lo xs ++ s ∷ drop hi xs) lo (lo + suc (j - hi)) s b spanned-apart (omega arith) (hold-at xs lo s (drop hi xs) (omega arith)) (behind-at xs lo (j - hi) b s (drop hi xs) (omega arith) at)

  pub into-none : (before : Spot) → gap_in width before s.from xs ≡ None
  into-none before = gap-none_into width xs before s.from (λ y in'. insert-new xs p s y (omega arith) pairs in')

  pub from-none : (after : Spot) → gap_in width s.from after xs ≡ None
  from-none after = gap-none_from width xs s.from after (λ y in'. insert-new xs p s y (omega arith) pairs in')
