-- What putting holds in does to orders.
use Rattle.std.proofs.Common.{◌≡◌, ◌∙◌, ℕ, zero, suc, ◌≤◌, ◌<◌, Bool, true, false, cond, ◌==◌, List, [], ◌∷◌, ◌++◌, length, insert, refl, sym, arith, All, AllPairs, ap, subst, Option, Some, None}
use Rattle.std.specs.Prelude.{IsPermutation, slice_get}
use Rattle.std.proofs.lemmas.List.{append-nil, append_assoc}
use Rattle.std.proofs.lemmas.List.Elements.{All-nil, All-cons, All-head, All-tail, All-append}
use Rattle.std.proofs.lemmas.List.Sorted.{IsPermutation-refl, IsPermutation-trans, IsPermutation-insert, IsPermutation-append_right, IsPermutation-middle, IsPermutation-sym}
use Rattle.std.proofs.lemmas.Bool.Decides.{nat_tests}
use Rattle.tp_machine.specs.Modes.{gap_at}
use Rattle.tp_machine.specs.declared.machine.Machine.{Machine}
use Rattle.tp_schedule.specs.Spots.{Ticks, Slot, IsApart, IsRow}
use Rattle.tp_schedule.proofs.Pairs.{AllPairs-insert_out}
use Rattle.tp_schedule.proofs.SlotOrder.{IsRow-from_AllPairs}
use Rattle.tp_constraints.specs.Gaps.{KeepsGap, KeepsGaps, slot_gap}
use Rattle.tp_constraints.specs.Suffixes.{before_place, place_gaps}
use Rattle.tp_constraints.specs.Hops.{Hop, slot_hop, hop_after, hop_until, place_hops}
use Rattle.tp_constraints.proofs.OrderGaps.{gap-from_apart, apart-from_gap}
use Rattle.tp_constraints.proofs.Lists.{All-split}
use Rattle.tp_constraints.specs.Puts.{AreWithin, Put, put_gaps, put_hops, resource_of, with_put, with_puts}

-- a hold put in between its neighbours, and back
row-insert : (g : ℕ) (t : Ticks) (xs : List Slot) (i : ℕ) (s : Slot) → i ≤ length xs → IsRow g t xs → KeepsGaps t (place_gaps g xs i s) → IsRow g t (insert xs i s)
row-insert g t [] zero s le row keeps = tt
row-insert g t [] (suc i) s le row keeps = absurd (omega (arith, le))
row-insert g t (x ∷ xs) zero s le row keeps = (apart-from_gap g t s x (All-head (KeepsGap t) (slot_gap g s x) [] keeps), row)
row-insert g t (x ∷ []) (suc zero) s le row keeps = (apart-from_gap g t x s (All-head (KeepsGap t) (slot_gap g x s) [] keeps), tt)
row-insert g t (x ∷ []) (suc (suc i)) s le row keeps = absurd (omega (arith, le))
row-insert g t (x ∷ y ∷ ys) (suc zero) s le row keeps =
    (apart-from_gap g t x s (All-head (KeepsGap t) (slot_gap g x s) (slot_gap g s y ∷ []) keeps), (apart-from_gap g t s y (All-head (KeepsGap t) (slot_gap g s y) [] (All-tail (KeepsGap t) (slot_gap g x s) (slot_gap g s y ∷ []) keeps)), row.1))
row-insert g t (x ∷ y ∷ ys) (suc (suc i)) s le row keeps = (row.0, row-insert g t (y ∷ ys) (suc i) s (omega arith) row.1 keeps)

gaps-from_insert : (g : ℕ) (t : Ticks) (xs : List Slot) (i : ℕ) (s : Slot) → i ≤ length xs → IsRow g t (insert xs i s) → KeepsGaps t (place_gaps g xs i s)
gaps-from_insert g t [] zero s le row = All-nil (KeepsGap t)
gaps-from_insert g t [] (suc i) s le row = absurd (omega (arith, le))
gaps-from_insert g t (x ∷ xs) zero s le row = All-cons (KeepsGap t) (slot_gap g s x) [] (gap-from_apart g t s x row.0) (All-nil (KeepsGap t))
gaps-from_insert g t (x ∷ []) (suc zero) s le row = All-cons (KeepsGap t) (slot_gap g x s) [] (gap-from_apart g t x s row.0) (All-nil (KeepsGap t))
gaps-from_insert g t (x ∷ []) (suc (suc i)) s le row = absurd (omega (arith, le))
gaps-from_insert g t (x ∷ y ∷ ys) (suc zero) s le row =
    All-cons (KeepsGap t) (slot_gap g x s) (slot_gap g s y ∷ []) (gap-from_apart g t x s row.0) (All-cons (KeepsGap t) (slot_gap g s y) [] (gap-from_apart g t s y row.1.0) (All-nil (KeepsGap t)))
gaps-from_insert g t (x ∷ y ∷ ys) (suc (suc i)) s le row = gaps-from_insert g t (y ∷ ys) (suc i) s (omega arith) row.1

-- the order that gets the hold, and the others
pub put-here : (p : Put) (orders : ℕ → List Slot) → with_put p orders (resource_of p) ≡ insert (orders (resource_of p)) p.place p.slot
put-here p orders = let e : (resource_of p == resource_of p) ≡ true = grind (arith, nat_tests) in ap (λ b. cond b (insert (orders (resource_of p)) p.place p.slot) (orders (resource_of p))) e

module _ (machine : Machine) (t : Ticks) where
  abbrev AreRows : (ℕ → List Slot) → Type 0
  AreRows orders = (r : ℕ) → IsRow (gap_at machine r) t (orders r)

  abbrev AreApartIn : (ℕ → List Slot) → Type 0
  AreApartIn orders = (r : ℕ) → AllPairs (IsApart (gap_at machine r) t) (orders r)

  row-put : (p : Put) (orders : ℕ → List Slot) → p.place ≤ length (orders (resource_of p)) → AreRows orders → KeepsGaps t (place_gaps (gap_at machine (resource_of p)) (orders (resource_of p)) p.place p.slot) → AreRows (with_put p orders)
  row-put p orders le rows keeps r = go (resource_of p == r) refl where
    go : (b : Bool) → (resource_of p == r) ≡ b → IsRow (gap_at machine r) t (cond b (insert (orders r) p.place p.slot) (orders r))
    go true e =
        let same : resource_of p ≡ r = grind (arith, nat_tests) in
        row-insert (gap_at machine r) t (orders r) p.place p.slot (subst (λ q. p.place ≤ length (orders q)) same le) (rows r) (subst (λ q. KeepsGaps t (place_gaps (gap_at machine q) (orders q) p.place p.slot)) same keeps)
    go false e = rows r

  -- rows stay rows where the gaps are kept
  pub rows-put : (puts : List Put) (orders : ℕ → List Slot) → AreWithin puts orders → AreRows orders → KeepsGaps t (put_gaps machine puts orders) → AreRows (with_puts puts orders)
  rows-put [] orders within rows keeps = rows
  rows-put (p ∷ puts) orders within rows keeps =
      let k = All-split (KeepsGap t) (place_gaps (gap_at machine (resource_of p)) (orders (resource_of p)) p.place p.slot) (put_gaps machine puts (with_put p orders)) keeps in
      rows-put puts (with_put p orders) within.1 (row-put p orders within.0 rows k.0) k.1

  apart-out : (p : Put) (orders : ℕ → List Slot) → AreApartIn (with_put p orders) → AreApartIn orders
  apart-out p orders all r = go (resource_of p == r) (all r) where
    go : (b : Bool) → AllPairs (IsApart (gap_at machine r) t) (cond b (insert (orders r) p.place p.slot) (orders r)) → AllPairs (IsApart (gap_at machine r) t) (orders r)
    go true pairs = AllPairs-insert_out (IsApart (gap_at machine r) t) (orders r) p.place p.slot pairs
    go false pairs = pairs

  -- holds that are apart in the end were so before, and kept the gaps
  pub puts-back : (puts : List Put) (orders : ℕ → List Slot) → AreWithin puts orders → AreApartIn (with_puts puts orders) → AreApartIn orders × KeepsGaps t (put_gaps machine puts orders)
  puts-back [] orders within all = (all, All-nil (KeepsGap t))
  puts-back (p ∷ puts) orders within all =
      let rest = puts-back puts (with_put p orders) within.1 all in
      let here = subst (AllPairs (IsApart (gap_at machine (resource_of p)) t)) (put-here p orders) (rest.0 (resource_of p)) in (
        apart-out p orders rest.0,
        All-append (KeepsGap t) (place_gaps (gap_at machine (resource_of p)) (orders (resource_of p)) p.place p.slot) (put_gaps machine puts (with_put p orders))
            (gaps-from_insert (gap_at machine (resource_of p)) t (orders (resource_of p)) p.place p.slot within.0 (IsRow-from_AllPairs (gap_at machine (resource_of p)) t (insert (orders (resource_of p)) p.place p.slot) here))
            rest.1,
      )

-- the holds that are put in on a resource
abbrev pub put_on : ℕ → List Put → List Slot
put_on r [] = []
put_on r (p ∷ puts) = cond (resource_of p == r) (p.slot ∷ put_on r puts) (put_on r puts)

-- what stood there and what was put in is there
pub puts-there : (r : ℕ) (puts : List Put) (orders : ℕ → List Slot) → IsPermutation (put_on r puts ++ orders r) (with_puts puts orders r)
puts-there r [] orders = IsPermutation-refl (orders r)
puts-there r (p ∷ puts) orders = go (resource_of p == r) (puts-there r puts (with_put p orders)) where
  go : (b : Bool) → IsPermutation (put_on r puts ++ cond b (insert (orders r) p.place p.slot) (orders r)) (with_puts puts (with_put p orders) r)
      → IsPermutation (cond b (p.slot ∷ put_on r puts) (put_on r puts) ++ orders r) (with_puts puts (with_put p orders) r)
  go true rest =
      IsPermutation-trans (p.slot ∷ (put_on r puts ++ orders r)) (put_on r puts ++ insert (orders r) p.place p.slot) (with_puts puts (with_put p orders) r)
      (IsPermutation-trans (p.slot ∷ (put_on r puts ++ orders r)) (put_on r puts ++ p.slot ∷ orders r) (put_on r puts ++ insert (orders r) p.place p.slot)
      (IsPermutation-sym (put_on r puts ++ p.slot ∷ orders r) (p.slot ∷ (put_on r puts ++ orders r)) (IsPermutation-middle (put_on r puts) p.slot (orders r)))
      (IsPermutation-append_right (put_on r puts) (p.slot ∷ orders r) (insert (orders r) p.place p.slot) (IsPermutation-insert (orders r) p.place p.slot)))
      rest
  go false rest = rest

-- ---- what stands before another
pub record StandsBefore (xs : List Slot) (a b : Slot) : Type 0 where
  pub i : ℕ
  pub j : ℕ
  pub less : i < j
  pub first : slice_get xs i ≡ Some a
  pub second : slice_get xs j ≡ Some b

before-cons : (x : Slot) (xs : List Slot) (a b : Slot) → StandsBefore xs a b → StandsBefore (x ∷ xs) a b
before-cons x xs a b h = record { i = suc h.i; j = suc h.j; less = (let l = h.less in omega arith); first = h.first; second = h.second }

record IsIn (xs : List Slot) (a : Slot) : Type 0 where
  at : ℕ
  is : slice_get xs at ≡ Some a

in-insert : (xs : List Slot) (k : ℕ) (s a : Slot) (i : ℕ) → slice_get xs i ≡ Some a → IsIn (insert xs k s) a
in-insert [] k s a i e = absurd cc
in-insert (x ∷ xs) zero s a i e = record { at = suc i; is = e }
in-insert (x ∷ xs) (suc k) s a zero e = record { at = 0; is = e }
in-insert (x ∷ xs) (suc k) s a (suc i) e = let r = in-insert xs k s a i e in record { at = suc r.at; is = r.is }

before-at : (xs : List Slot) (k : ℕ) (s a b : Slot) (i j : ℕ) → i < j → slice_get xs i ≡ Some a → slice_get xs j ≡ Some b → StandsBefore (insert xs k s) a b
before-at [] k s a b i j less e f = absurd cc
before-at (x ∷ xs) zero s a b i j less e f = record { i = suc i; j = suc j; less = omega arith; first = e; second = f }
before-at (x ∷ xs) (suc k) s a b zero zero less e f = absurd (omega (arith, less))
before-at (x ∷ xs) (suc k) s a b (suc i) zero less e f = absurd (omega (arith, less))
before-at (x ∷ xs) (suc k) s a b zero (suc j) less e f = let r = in-insert xs k s b j f in record { i = 0; j = suc r.at; less = omega arith; first = e; second = r.is }
before-at (x ∷ xs) (suc k) s a b (suc i) (suc j) less e f = before-cons x (insert xs k s) a b (before-at xs k s a b i j (omega arith) e f)

before-insert : (xs : List Slot) (k : ℕ) (s a b : Slot) → StandsBefore xs a b → StandsBefore (insert xs k s) a b
before-insert xs k s a b h = before-at xs k s a b h.i h.j h.less h.first h.second

before-put : (p : Put) (orders : ℕ → List Slot) (r : ℕ) (a b : Slot) → StandsBefore (orders r) a b → StandsBefore (with_put p orders r) a b
before-put p orders r a b h = go (resource_of p == r) where
  go : (c : Bool) → StandsBefore (cond c (insert (orders r) p.place p.slot) (orders r)) a b
  go true = before-insert (orders r) p.place p.slot a b h
  go false = h

-- what stood before another still does
pub before-puts : (puts : List Put) (orders : ℕ → List Slot) (r : ℕ) (a b : Slot) → StandsBefore (orders r) a b → StandsBefore (with_puts puts orders r) a b
before-puts [] orders r a b h = h
before-puts (p ∷ puts) orders r a b h = before-puts puts (with_put p orders) r a b (before-put p orders r a b h)

-- the neighbours of a hold that is put in stand before and behind it
after-neighbour : (xs : List Slot) (i : ℕ) (s a : Slot) → i ≤ length xs → before_place xs i ≡ Some a → StandsBefore (insert xs i s) a s
after-neighbour xs zero s a le e = absurd cc
after-neighbour [] (suc i) s a le e = absurd cc
after-neighbour (x ∷ xs) (suc zero) s a le e = record { i = 0; j = 1; less = omega arith; first = e; second = refl }
after-neighbour (x ∷ xs) (suc (suc i)) s a le e = before-cons x (insert xs (suc i) s) a s (after-neighbour xs (suc i) s a (omega arith) e)

until-neighbour : (xs : List Slot) (i : ℕ) (s b : Slot) → i ≤ length xs → slice_get xs i ≡ Some b → StandsBefore (insert xs i s) s b
until-neighbour [] i s b le e = absurd cc
until-neighbour (x ∷ xs) zero s b le e = record { i = 0; j = 1; less = omega arith; first = refl; second = e }
until-neighbour (x ∷ xs) (suc i) s b le e = before-cons x (insert xs i s) s b (until-neighbour xs i s b (omega arith) e)

-- a relation of hops that holds of all that stand before others holds of the neighbours
module _ (machine : Machine) (P : Hop → Type 0) where
  before-hop : (r : ℕ) (o : Option Slot) (s : Slot) → ((a : Slot) → o ≡ Some a → P (slot_hop machine r a s)) → All P (hop_after machine r o s)
  before-hop r None s each = All-nil P
  before-hop r (Some a) s each = All-cons P (slot_hop machine r a s) [] (each a refl) (All-nil P)

  after-hop : (r : ℕ) (o : Option Slot) (s : Slot) → ((a : Slot) → o ≡ Some a → P (slot_hop machine r s a)) → All P (hop_until machine r s o)
  after-hop r None s each = All-nil P
  after-hop r (Some a) s each = All-cons P (slot_hop machine r s a) [] (each a refl) (All-nil P)

  pub puts-hops : (puts : List Put) (orders : ℕ → List Slot) → AreWithin puts orders → ((r : ℕ) (a b : Slot) → StandsBefore (with_puts puts orders r) a b → P (slot_hop machine r a b)) → All P (put_hops machine puts orders)
  puts-hops [] orders within each = All-nil P
  puts-hops (p ∷ puts) orders within each =
      let r = resource_of p in
      let later : (a b : Slot) → StandsBefore (insert (orders r) p.place p.slot) a b → P (slot_hop machine r a b) =
      λ a b h. each r a b (before-puts puts (with_put p orders) r a b (subst (λ xs. StandsBefore xs a b) (sym (put-here p orders)) h)) in
      All-append P (place_hops machine r (orders r) p.place p.slot) (put_hops machine puts (with_put p orders))
      (All-append P (hop_after machine r (before_place (orders r) p.place) p.slot) (hop_until machine r p.slot (slice_get (orders r) p.place))
      (before-hop r (before_place (orders r) p.place) p.slot (λ a e. later a p.slot (after-neighbour (orders r) p.place p.slot a within.0 e)))
      (after-hop r (slice_get (orders r) p.place) p.slot (λ a e. later p.slot a (until-neighbour (orders r) p.place p.slot a within.0 e))))
      (puts-hops puts (with_put p orders) within.1 each)

-- ---- one hold more
pub puts-push : (puts : List Put) (x : Put) (orders : ℕ → List Slot) → with_puts (puts ++ x ∷ []) orders ≡ with_put x (with_puts puts orders)
puts-push [] x orders = refl
puts-push (p ∷ puts) x orders = puts-push puts x (with_put p orders)

pub within-push : (puts : List Put) (x : Put) (orders : ℕ → List Slot) → AreWithin puts orders → x.place ≤ length (with_puts puts orders (resource_of x)) → AreWithin (puts ++ x ∷ []) orders
within-push [] x orders within le = (le, tt)
within-push (p ∷ puts) x orders within le = (within.0, within-push puts x (with_put p orders) within.1 le)

pub put_hops-push : (machine : Machine) (puts : List Put) (x : Put) (orders : ℕ → List Slot)
    → put_hops machine (puts ++ x ∷ []) orders ≡ put_hops machine puts orders ++ place_hops machine (resource_of x) (with_puts puts orders (resource_of x)) x.place x.slot
put_hops-push machine [] x orders = append-nil (place_hops machine (resource_of x) (orders (resource_of x)) x.place x.slot)
put_hops-push machine (p ∷ puts) x orders =
    let here = place_hops machine (resource_of p) (orders (resource_of p)) p.place p.slot in
    ap (λ hs. here ++ hs) (put_hops-push machine puts x (with_put p orders))
    ∙ sym (append_assoc here (put_hops machine puts (with_put p orders)) (place_hops machine (resource_of x) (with_puts puts (with_put p orders) (resource_of x)) x.place x.slot))

-- each order has holds of its resource
abbrev pub IsOf : ℕ → Slot → Type 0
IsOf r s = s.rule.resource.0 ≡ r

insert-all : (P : Slot → Type 0) (xs : List Slot) (i : ℕ) (s : Slot) → P s → All P xs → All P (insert xs i s)
insert-all P xs zero s one all = All-cons P s xs one all
insert-all P [] (suc i) s one all = All-cons P s [] one all
insert-all P (x ∷ xs) (suc i) s one all = All-cons P x (insert xs i s) (All-head P x xs all) (insert-all P xs i s one (All-tail P x xs all))

pub puts-on : (puts : List Put) (orders : ℕ → List Slot) → ((r : ℕ) → All (IsOf r) (orders r)) → (r : ℕ) → All (IsOf r) (with_puts puts orders r)
puts-on [] orders on r = on r
puts-on (p ∷ puts) orders on r = puts-on puts (with_put p orders) (λ q. go q (resource_of p == q) refl) r where
  go : (q : ℕ) (b : Bool) → (resource_of p == q) ≡ b → All (IsOf q) (cond b (insert (orders q) p.place p.slot) (orders q))
  go q true e = let same : resource_of p ≡ q = grind (arith, nat_tests) in insert-all (IsOf q) (orders q) p.place p.slot same (on q)
  go q false e = on q
