-- Sound holds lie apart, pair by pair, exactly where they cover no tick twice, and those of different modes cover ticks that
-- differ by more than the gap.
use Rattle.std.proofs.Common.{◌≡◌, ◌≢◌, ◌⊎◌, inl, inr, ℕ, zero, suc, ◌+◌, ◌≤◌, ◌<◌, Bool, true, false, cond, List, [], ◌∷◌, length, filter, refl, ap, sym, arith, Contains, All, AllPairs, subst, get_or}
use Rattle.std.specs.Prelude.{ℤ, pos, negsuc, int_lt, int_le, ◌≤ℤ◌, ◌<ℤ◌, ◌&&◌}
use Rattle.std.proofs.lemmas.Int.{ints}
use Rattle.std.proofs.lemmas.List.Elements.{All-head, All-tail, Contains-get_or}
use Rattle.tp_machine.proofs.ModeFacts.{modes_differ_or_not, no_gap_between, whole_gap_between, gap_between-most}
use Rattle.tp_machine.specs.Modes.{mode_of}
use Rattle.tp_machine.specs.ModuleUse.{covers}
use Rattle.tp_schedule.proofs.Membership.{Contains-here, Contains-later}
use Rattle.tp_schedule.proofs.Pairs.{AllPairs-head, AllPairs-tail, AllPairs-nil, AllPairs-cons, AllPairs-either}
use Rattle.tp_schedule.specs.Spots.{Ticks, Slot, begin_at, end_at, IsApart, AreApart, IsSoundSlot}
use Rattle.tp_schedule.proofs.SlotOrder.{lt_cases}

abbrev pub covered : Ticks → ℕ → Slot → Bool
covered t tick s = covers s.rule (t s.from) (t s.to) tick

covers-true : (a b : ℤ) (n : ℕ) → a ≤ℤ pos n → pos n <ℤ b → (int_le a (pos n) && int_lt (pos n) b) ≡ true
covers-true a b n p q = grind (arith, ints)

covers-both : (a b : ℤ) (n : ℕ) → (int_le a (pos n) && int_lt (pos n) b) ≡ true → (a ≤ℤ pos n) × (pos n <ℤ b)
covers-both a b n e = (grind (arith, ints), grind (arith, ints))

natural : (a : ℤ) → pos 0 ≤ℤ a → (n : ℕ) × (a ≡ pos n)
natural (pos n) le = (n, refl)
natural (negsuc n) le = absurd (omega (arith, ints))

overlap_covers : (t : Ticks) (x y : Slot) → IsSoundSlot t x → IsSoundSlot t y → begin_at t y <ℤ end_at t x → begin_at t x <ℤ end_at t y → (tick : ℕ) × (covered t tick x ≡ true) × (covered t tick y ≡ true)
overlap_covers t x y x-sound y-sound p q =
    let from-x = natural (begin_at t x) x-sound.late in
    let from-y = natural (begin_at t y) y-sound.late in
    elim (lt_cases (begin_at t x) (begin_at t y)) [
      | inl lt ↦ (
        from-y.0,
        covers-true (begin_at t x) (end_at t x) from-y.0 (let e = from-y.1 in omega (arith, ints)) (let e = from-y.1 in omega (arith, ints)),
        covers-true (begin_at t y) (end_at t y) from-y.0 (let e = from-y.1 in omega (arith, ints)) (let e = from-y.1 in omega (arith, ints)),
      )
      | inr le ↦ (
        from-x.0,
        covers-true (begin_at t x) (end_at t x) from-x.0 (let e = from-x.1 in omega (arith, ints)) (let e = from-x.1 in omega (arith, ints)),
        covers-true (begin_at t y) (end_at t y) from-x.0 (let e = from-x.1 in omega (arith, ints)) (let e = from-x.1 in omega (arith, ints)),
      )
    ]

filter-has : {X : Type 0} (p : X → Bool) (xs : List X) (k : ℕ) (d : X) → k < length xs → p (get_or xs k d) ≡ true → 0 < length (filter p xs)
filter-has p [] k d within e = absurd (omega arith)
filter-has p (x ∷ xs) zero d within e = rw e (omega arith)
filter-has p (x ∷ xs) (suc k) d within e = go (p x) (filter-has p xs k d (omega arith) e) where
  go : (b : Bool) → 0 < length (filter p xs) → 0 < length (cond b (x ∷ filter p xs) (filter p xs))
  go true rest = omega arith
  go false rest = rest

filter-fewer : {X : Type 0} (p : X → Bool) (x : X) (xs : List X) → length (filter p xs) ≤ length (filter p (x ∷ xs))
filter-fewer p x xs = go (p x) where
  go : (b : Bool) → length (filter p xs) ≤ length (cond b (x ∷ filter p xs) (filter p xs))
  go true = omega arith
  go false = omega arith

both_in : {X : Type 0} (p : X → Bool) (x : X) (xs : List X) (k : ℕ) (d : X) → k < length xs → p x ≡ true → p (get_or xs k d) ≡ true → 2 ≤ length (filter p (x ∷ xs))
both_in p x xs k d within e f = let some = filter-has p xs k d within f in rw e (omega arith)

-- ticks of two holds of different modes differ by more than the gap
abbrev pub Spread : ℕ → Ticks → Slot → Slot → Type 0
Spread g t x y = mode_of x.rule ≢ mode_of y.rule → (a b : ℕ) → covered t a x ≡ true → covered t b y ≡ true → (a + g < b) ⊎ (b + g < a)

last_before : (a b : ℤ) → pos 0 ≤ℤ a → a <ℤ b → (n : ℕ) × (b ≡ pos (n + 1))
last_before a (pos zero) low lt = absurd (omega (arith, ints))
last_before a (pos (suc n)) low lt = (n, ap pos (omega arith))
last_before a (negsuc n) low lt = absurd (omega (arith, ints))

-- a hold that ends by the begin of another of which its ticks are spread is apart from it by the gap
wider : (g : ℕ) (t : Ticks) (x y : Slot) → IsSoundSlot t x → IsSoundSlot t y → Spread g t x y → end_at t x ≤ℤ begin_at t y → IsApart g t x y
wider g t x y x-sound y-sound spread ends = elim (modes_differ_or_not x.rule y.rule) [
  | inl same ↦ let none = no_gap_between g x.rule y.rule same in omega (arith, ints)
  | inr differ ↦ (
      let long-x = x-sound.long in
      let long-y = y-sound.long in
      let last = last_before (begin_at t x) (end_at t x) x-sound.late x-sound.long in
      let first = natural (begin_at t y) y-sound.late in
      let is-last = last.1 in
      let is-first = first.1 in
      let c : covered t last.0 x ≡ true = covers-true (begin_at t x) (end_at t x) last.0 (omega (arith, ints)) (omega (arith, ints)) in
      let d : covered t first.0 y ≡ true = covers-true (begin_at t y) (end_at t y) first.0 (omega (arith, ints)) (omega (arith, ints)) in
      let most = gap_between-most g x.rule y.rule in
      elim (spread differ last.0 first.0 c d) [
        | inl lt ↦ omega (arith, ints)
        | inr lt ↦ absurd (omega (arith, ints))
      ])
]

-- ticks of holds of different modes that are apart differ by more than the gap
spread_by : (g : ℕ) (t : Ticks) (x y : Slot) → AreApart g t x y → Spread g t x y
spread_by g t x y c differ a b p q =
    let in-x = covers-both (begin_at t x) (end_at t x) a p in
    let in-y = covers-both (begin_at t y) (end_at t y) b q in
    let is-gap = whole_gap_between g x.rule y.rule differ in
    let is-gap' = whole_gap_between g y.rule x.rule (λ e. differ (sym e)) in
    elim c [ inl h ↦ inl (omega (arith, ints)) | inr h ↦ inr (omega (arith, ints)) ]

-- so are all ticks of holds of which each two are apart
pub spread_from_AllPairs : (g : ℕ) (t : Ticks) (xs : List Slot) → AllPairs (AreApart g t) xs → (x y : Slot) → Contains xs x → Contains xs y → Spread g t x y
spread_from_AllPairs g t xs apart x y in-x in-y differ =
    spread_by g t x y (elim (AllPairs-either (AreApart g t) xs x y apart in-x in-y (λ e. differ (ap (λ (s : Slot). mode_of s.rule) e))) [
      | inl a ↦ a
      | inr (inl a) ↦ inr a
      | inr (inr a) ↦ inl a
    ]) differ

-- holds that cover no tick twice, and of which different modes are spread, are apart
pub AllPairs-from_covered : (g : ℕ) (t : Ticks) (xs : List Slot) → All (IsSoundSlot t) xs → ((tick : ℕ) → length (filter (covered t tick) xs) ≤ 1) → ((x y : Slot) → Contains xs x → Contains xs y → Spread g t x y) → AllPairs (AreApart g t) xs
AllPairs-from_covered g t [] sound once spread = AllPairs-nil (AreApart g t)
AllPairs-from_covered g t (x ∷ xs) sound once spread =
    AllPairs-cons (AreApart g t) x xs
    (λ k d within. one k d within (get_or xs k d) refl (Contains-get_or xs k d within))
    (AllPairs-from_covered g t xs (All-tail (IsSoundSlot t) x xs sound) (λ tick. let fewer = filter-fewer (covered t tick) x xs in omega (arith, once tick))
    (λ y z in-y in-z. spread y z (Contains-later x xs y in-y) (Contains-later x xs z in-z))) where
      one : (k : ℕ) (d : Slot) → k < length xs → (y : Slot) → get_or xs k d ≡ y → Contains xs (get_or xs k d) → AreApart g t x y
      one k d within y is in' =
          let x-sound = All-head (IsSoundSlot t) x xs sound in
          let y-sound : IsSoundSlot t y = subst (IsSoundSlot t) is (All-tail (IsSoundSlot t) x xs sound k d within) in
          let in-y : Contains (x ∷ xs) y = Contains-later x xs y (subst (Contains xs) is in') in
          elim (lt_cases (begin_at t y) (end_at t x)) [
            | inr apart ↦ inl (wider g t x y x-sound y-sound (spread x y (Contains-here x xs) in-y) apart)
            | inl p ↦ elim (lt_cases (begin_at t x) (end_at t y)) [
              | inr apart ↦ inr (wider g t y x y-sound x-sound (spread y x in-y (Contains-here x xs)) apart)
              | inl q ↦
                  let both = overlap_covers t x y x-sound y-sound p q in
                  let two = both_in (covered t both.0) x xs k d within both.1 (subst (λ z. covered t both.0 z ≡ true) (sym is) both.2) in
                  absurd (omega (arith, once both.0))
            ]
          ]

not_covered_both : (g : ℕ) (t : Ticks) (x y : Slot) (tick : ℕ) → AreApart g t x y → covered t tick x ≡ true → covered t tick y ≡ true → ⊥
not_covered_both g t x y tick c p q =
    let in-x = covers-both (begin_at t x) (end_at t x) tick p in
    let in-y = covers-both (begin_at t y) (end_at t y) tick q in
    elim c [ inl a ↦ omega (arith, ints) | inr a ↦ omega (arith, ints) ]

filter-none : {X : Type 0} (p : X → Bool) (xs : List X) → All (λ x. p x ≡ false) xs → length (filter p xs) ≡ 0
filter-none p [] all = refl
filter-none p (x ∷ xs) all = rw (All-head (λ y. p y ≡ false) x xs all) (filter-none p xs (All-tail (λ y. p y ≡ false) x xs all))

-- holds that are apart cover no tick twice
pub covered-from_AllPairs : (g : ℕ) (t : Ticks) (xs : List Slot) → AllPairs (AreApart g t) xs → (tick : ℕ) → length (filter (covered t tick) xs) ≤ 1
covered-from_AllPairs g t [] apart tick = omega arith
covered-from_AllPairs g t (x ∷ xs) apart tick = go (covered t tick x) refl (covered-from_AllPairs g t xs (AllPairs-tail (AreApart g t) x xs apart) tick) where
  other : covered t tick x ≡ true → (y : Slot) → AreApart g t x y → (b : Bool) → covered t tick y ≡ b → b ≡ false
  other e y c true f = absurd (not_covered_both g t x y tick c e f)
  other e y c false f = refl

  go : (b : Bool) → covered t tick x ≡ b → length (filter (covered t tick) xs) ≤ 1 → length (cond b (x ∷ filter (covered t tick) xs) (filter (covered t tick) xs)) ≤ 1
  go true e rest =
      let none = filter-none (covered t tick) xs (λ k d within. other e (get_or xs k d) (AllPairs-head (AreApart g t) x xs apart k d within) (covered t tick (get_or xs k d)) refl) in
      omega (arith, none)
  go false e rest = rest
