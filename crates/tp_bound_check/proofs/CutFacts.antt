-- What is between two holds of an order of which some places are left out.
use Rattle.std.proofs.Common.{◌≡◌, ℕ, zero, suc, ◌≤◌, Bool, true, false, cond, ◌&&◌, ◌||◌, leb, ltb, List, [], ◌∷◌, ◌++◌, insert, take, drop, find, refl, sym, ◌∙◌, ap, arith, All, AllPairs, Option, Some, None, option_map}
use Rattle.std.proofs.lemmas.Bool.Decides.{nat_tests}
use Rattle.std.proofs.lemmas.List.Elements.{All-head, All-tail}
use Rattle.tp_constraints.proofs.PointNumbers.{same_spot-is}
use Rattle.tp_constraints.specs.Gaps.{slot_gap}
use Rattle.tp_constraints.specs.Numbers.{is_same_spot}
use Rattle.tp_schedule.proofs.Pairs.{AllPairs-head, AllPairs-tail}
use Rattle.tp_schedule.specs.Spots.{Slot, Spot}
use Rattle.tp_bound_laws.proofs.ApartStarts.{Apart}
use Rattle.tp_bound_laws.specs.Chains.{gap_in}
use Rattle.tp_bound_check.specs.Founds.{found_in, gap_out, is_outside, next_found}
use Rattle.tp_bound_check.specs.declared.found.Found.{Found}

abbrev pub slot-out : ℕ → ℕ → Option Found → Option Slot
slot-out lo hi None = None
slot-out lo hi (Some f) = cond (is_outside lo hi f) (Some f.slot) None

abbrev head-found : Slot → Found
head-found x = record { at = 0; slot = x }

abbrev first : Bool → Slot → Option Found → Option Found
first p x o = cond p (Some (head-found x)) (option_map next_found o)

none-found : (x : Slot) (a : Spot) (xs : List Slot) → All (Apart x) xs → is_same_spot x.from a ≡ true → found_in a xs ≡ None
none-found x a [] all same = refl
none-found x a (y ∷ ys) all same = go (is_same_spot y.from a) refl (none-found x a ys (All-tail (Apart x) y ys all) same) where
  go : (b : Bool) → is_same_spot y.from a ≡ b → found_in a ys ≡ None → cond b (Some (head-found y)) (option_map next_found (found_in a ys)) ≡ None
  go true e rest = absurd (All-head (Apart x) y ys all (same_spot-is x.from a same ∙ sym (same_spot-is y.from a e)))
  go false e rest = ap (option_map next_found) rest

and-yes : (a b c d : Bool) → a ≡ true → b ≡ true → c ≡ d → (a && b && c) ≡ d
and-yes true true c d p q e = e
and-yes true false c d p q e = absurd cc
and-yes false b c d p q e = absurd cc

and-no : (a b c : Bool) → b ≡ false → (a && b && c) ≡ false
and-no true true c e = absurd cc
and-no true false c e = refl
and-no false b c e = refl

and-same : (a b c d e : Bool) → b ≡ d → c ≡ e → (a && b && c) ≡ (a && d && e)
and-same a b c d e p q = ap (λ x. a && x && c) p ∙ ap (λ x. a && d && x) q

none-less : (n : ℕ) → ltb n 0 ≡ false
none-less n = grind (arith, nat_tests)

less-first : (n : ℕ) → ltb 0 (suc n) ≡ true
less-first n = grind (arith, nat_tests)

less-next : (m n : ℕ) → ltb (suc m) (suc n) ≡ ltb m n
less-next m n = grind (arith, nat_tests)

le-next : (m n : ℕ) → leb (suc m) (suc n) ≡ leb m n
le-next m n = grind (arith, nat_tests)

none-above : (n : ℕ) → leb (suc n) 0 ≡ false
none-above n = grind (arith, nat_tests)

-- places in a cut that moves on with the order
next-both : (lo hi : ℕ) (f : Found) → is_outside (suc lo) (suc hi) (next_found f) ≡ is_outside lo hi f
next-both lo hi f = ap (λ t. t || leb (suc hi) (suc f.at)) (less-next f.at lo) ∙ ap (λ t. ltb f.at lo || t) (le-next hi f.at)

head-in : (hi : ℕ) (x : Slot) → is_outside 0 (suc hi) (record { at = 0; slot = x }) ≡ false
head-in hi x = ap (λ t. ltb 0 0 || t) (none-above hi)

head-out : (lo hi : ℕ) (x : Slot) → is_outside (suc lo) hi (record { at = 0; slot = x }) ≡ true
head-out lo hi x = ap (λ t. t || leb hi 0) (less-first lo)

module _ (lo hi lo' hi' : ℕ) (next : (f : Found) → is_outside lo' hi' (next_found f) ≡ is_outside lo hi f) where
  stay-find : (x : Slot) (q : Bool) (o : Option Found) → is_outside lo' hi' (head-found x) ≡ true → cond q (Some x) (slot-out lo hi o) ≡ slot-out lo' hi' (first q x o)
  stay-find x true o here = sym (ap (λ t. cond t (Some x) None) here)
  stay-find x false None here = refl
  stay-find x false (Some f) here = ap (λ t. cond t (Some f.slot) None) (sym (next f))

  gone-find : (x : Slot) (q : Bool) (o : Option Found) → (q ≡ true → o ≡ None) → is_outside lo' hi' (head-found x) ≡ false → slot-out lo hi o ≡ slot-out lo' hi' (first q x o)
  gone-find x true o none here = ap (slot-out lo hi) (none refl) ∙ sym (ap (λ t. cond t (Some x) None) here)
  gone-find x false None none here = refl
  gone-find x false (Some f) none here = ap (λ t. cond t (Some f.slot) None) (sym (next f))

  both-later : (apart : ℕ) (o other : Option Found) → gap_out apart lo hi o other ≡ gap_out apart lo' hi' (option_map next_found o) (option_map next_found other)
  both-later apart None other = refl
  both-later apart (Some f) None = refl
  both-later apart (Some f) (Some g) =
      ap (λ t. cond t (Some (slot_gap apart f.slot g.slot)) None)
      (and-same (ltb f.at g.at) (is_outside lo hi f) (is_outside lo hi g) (is_outside lo' hi' (next_found f)) (is_outside lo' hi' (next_found g)) (sym (next f)) (sym (next g))
      ∙ ap (λ t. t && is_outside lo' hi' (next_found f) && is_outside lo' hi' (next_found g)) (sym (less-next f.at g.at)))

  one-before : (apart : ℕ) (x : Slot) (o : Option Found) → gap_out apart lo' hi' (option_map next_found o) (Some (head-found x)) ≡ None
  one-before apart x None = refl
  one-before apart x (Some f) =
      ap (λ t. cond (t && is_outside lo' hi' (next_found f) && is_outside lo' hi' (head-found x)) (Some (slot_gap apart f.slot x)) None) (none-less (suc f.at))

  to-none : (apart : ℕ) (o : Option Found) → gap_out apart lo hi o None ≡ None
  to-none apart None = refl
  to-none apart (Some f) = refl

  stay : (apart : ℕ) (x : Slot) (p q : Bool) (o other : Option Found) → (q ≡ true → other ≡ None) → is_outside lo' hi' (head-found x) ≡ true
      → cond p (option_map (slot_gap apart x) (slot-out lo hi other)) (gap_out apart lo hi o other) ≡ gap_out apart lo' hi' (first p x o) (first q x other)
  stay apart x true true o other none here = ap (λ k. option_map (slot_gap apart x) (slot-out lo hi k)) (none refl)
  stay apart x true false o None none here = refl
  stay apart x true false o (Some g) none here =
      let t = and-yes (ltb 0 (suc g.at)) (is_outside lo' hi' (head-found x)) (is_outside lo' hi' (next_found g)) (is_outside lo hi g) (less-first g.at) here (next g) in
      go (is_outside lo hi g) ∙ sym (ap (λ t. cond t (Some (slot_gap apart x g.slot)) None) t)
    where
      go : (b : Bool) → option_map (slot_gap apart x) (cond b (Some g.slot) None) ≡ cond b (Some (slot_gap apart x g.slot)) None
      go true = refl
      go false = refl
  stay apart x false true o other none here = ap (gap_out apart lo hi o) (none refl) ∙ to-none apart o ∙ sym (one-before apart x o)
  stay apart x false false o other none here = both-later apart o other

  gone : (apart : ℕ) (x : Slot) (p q : Bool) (o other : Option Found) → (p ≡ true → o ≡ None) → (q ≡ true → other ≡ None) → is_outside lo' hi' (head-found x) ≡ false
      → gap_out apart lo hi o other ≡ gap_out apart lo' hi' (first p x o) (first q x other)
  gone apart x true true o other none-p none-q here = ap (λ k. gap_out apart lo hi k other) (none-p refl)
  gone apart x true false o None none-p none-q here = ap (λ k. gap_out apart lo hi k None) (none-p refl)
  gone apart x true false o (Some g) none-p none-q here =
      let t = and-no (ltb 0 (suc g.at)) (is_outside lo' hi' (head-found x)) (is_outside lo' hi' (next_found g)) here in
      ap (λ k. gap_out apart lo hi k (Some g)) (none-p refl) ∙ sym (ap (λ t. cond t (Some (slot_gap apart x g.slot)) None) t)
  gone apart x false true o other none-p none-q here = ap (gap_out apart lo hi o) (none-q refl) ∙ to-none apart o ∙ sym (one-before apart x o)
  gone apart x false false o other none-p none-q here = both-later apart o other

next-none : (f : Found) → is_outside 0 0 (next_found f) ≡ is_outside 0 0 f
next-none f = grind (arith, nat_tests)

next-hi : (hi : ℕ) (f : Found) → is_outside 0 (suc hi) (next_found f) ≡ is_outside 0 hi f
next-hi hi f = ap (λ t. t || leb (suc hi) (suc f.at)) (none-less (suc f.at) ∙ sym (none-less f.at)) ∙ ap (λ t. ltb f.at 0 || t) (le-next hi f.at)

abbrev pub cut : ℕ → ℕ → List Slot → List Slot
cut lo hi xs = take lo xs ++ drop hi xs

pub find-cut : (a : Spot) (lo hi : ℕ) (xs : List Slot) → lo ≤ hi → AllPairs Apart xs → find (λ y. is_same_spot y.from a) (cut lo hi xs) ≡ slot-out lo hi (found_in a xs)
find-cut a zero zero [] le apart = refl
find-cut a zero (suc hi) [] le apart = refl
find-cut a (suc lo) zero xs le apart = absurd (omega arith)
find-cut a (suc lo) (suc hi) [] le apart = refl
find-cut a zero zero (x ∷ xs) le apart =
    ap (cond (is_same_spot x.from a) (Some x)) (find-cut a 0 0 xs le (AllPairs-tail Apart x xs apart)) ∙ stay-find 0 0 0 0 next-none x (is_same_spot x.from a) (found_in a xs) refl
find-cut a zero (suc hi) (x ∷ xs) le apart =
    find-cut a 0 hi xs (omega arith) (AllPairs-tail Apart x xs apart) ∙ gone-find 0 hi 0 (suc hi) (next-hi hi) x (is_same_spot x.from a) (found_in a xs) (none-found x a xs (AllPairs-head Apart x xs apart)) (head-in hi x)
find-cut a (suc lo) (suc hi) (x ∷ xs) le apart =
    ap (cond (is_same_spot x.from a) (Some x)) (find-cut a lo hi xs (omega arith) (AllPairs-tail Apart x xs apart)) ∙ stay-find lo hi (suc lo) (suc hi) (next-both lo hi) x (is_same_spot x.from a) (found_in a xs) (head-out lo (suc hi) x)

-- where the places of the two holds are known, so is what is between them
pub gap-cut : (apart : ℕ) (b a : Spot) (lo hi : ℕ) (xs : List Slot) → lo ≤ hi → AllPairs Apart xs → gap_in apart b a (cut lo hi xs) ≡ gap_out apart lo hi (found_in b xs) (found_in a xs)
gap-cut apart b a zero zero [] le pairs = refl
gap-cut apart b a zero (suc hi) [] le pairs = refl
gap-cut apart b a (suc lo) zero xs le pairs = absurd (omega arith)
gap-cut apart b a (suc lo) (suc hi) [] le pairs = refl
gap-cut apart b a zero zero (x ∷ xs) le pairs =
    let tail = AllPairs-tail Apart x xs pairs in
    ap (λ o. cond (is_same_spot x.from b) (option_map (slot_gap apart x) o) (gap_in apart b a xs)) (find-cut a 0 0 xs le tail)
    ∙ ap (cond (is_same_spot x.from b) (option_map (slot_gap apart x) (slot-out 0 0 (found_in a xs)))) (gap-cut apart b a 0 0 xs le tail)
    ∙ stay 0 0 0 0 next-none apart x (is_same_spot x.from b) (is_same_spot x.from a) (found_in b xs) (found_in a xs) (none-found x a xs (AllPairs-head Apart x xs pairs)) refl
gap-cut apart b a zero (suc hi) (x ∷ xs) le pairs =
    let all = AllPairs-head Apart x xs pairs in
    gap-cut apart b a 0 hi xs (omega arith) (AllPairs-tail Apart x xs pairs)
    ∙ gone 0 hi 0 (suc hi) (next-hi hi) apart x (is_same_spot x.from b) (is_same_spot x.from a) (found_in b xs) (found_in a xs) (none-found x b xs all) (none-found x a xs all) (head-in hi x)
gap-cut apart b a (suc lo) (suc hi) (x ∷ xs) le pairs =
    let tail = AllPairs-tail Apart x xs pairs in
    ap (λ o. cond (is_same_spot x.from b) (option_map (slot_gap apart x) o) (gap_in apart b a (cut lo hi xs))) (find-cut a lo hi xs (omega arith) tail)
    ∙ ap (cond (is_same_spot x.from b) (option_map (slot_gap apart x) (slot-out lo hi (found_in a xs)))) (gap-cut apart b a lo hi xs (omega arith) tail)
    ∙ stay lo hi (suc lo) (suc hi) (next-both lo hi) apart x (is_same_spot x.from b) (is_same_spot x.from a) (found_in b xs) (found_in a xs) (none-found x a xs (AllPairs-head Apart x xs pairs)) (head-out lo (suc hi) x)

-- an order with a hold in place of a range of places is one with the hold more, of which some places are left out
pub cut-insert : (lo hi : ℕ) (s : Slot) (xs : List Slot) → lo ≤ hi → take lo xs ++ s ∷ drop hi xs ≡ cut (suc lo) (suc hi) (insert xs lo s)
cut-insert zero zero s [] le = refl
cut-insert zero (suc hi) s [] le = refl
cut-insert (suc lo) zero s xs le = absurd (omega arith)
cut-insert (suc lo) (suc hi) s [] le = short lo hi where
  short : (lo hi : ℕ) → s ∷ [] ≡ cut (suc (suc lo)) (suc (suc hi)) (s ∷ [])
  short lo hi = refl
cut-insert zero zero s (x ∷ xs) le = refl
cut-insert zero (suc hi) s (x ∷ xs) le = refl
cut-insert (suc lo) (suc hi) s (x ∷ xs) le = ap (λ ys. x ∷ ys) (cut-insert lo hi s xs (omega arith))
