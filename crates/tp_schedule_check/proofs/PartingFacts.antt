-- Sorted holds part where the orders of the first resource do on which they are not the same.
use Rattle.std.proofs.Common.{◌≡◌, ℕ, zero, suc, ◌<◌, ◌≤◌, ◌==◌, inl, inr, Bool, true, false, cond, not, List, [], ◌∷◌, length, map, filter, take, slice_get, refl, sym, ap, subst, ◌∙◌, arith, All, AllPairs, Option, Some, None}
use Rattle.std.specs.Prelude.{option_map, IsPermutation, MatchOption, nat_lt}
use Rattle.std.proofs.lemmas.Bool.Decides.{nat_tests}
use Rattle.std.proofs.lemmas.List.{take-map}
use Rattle.std.proofs.lemmas.List.Elements.{All-head, All-tail, All-weaker}
use Rattle.std.proofs.lemmas.List.Kept.{AllPairs-filter}
use Rattle.std.proofs.lemmas.Option.{slice_get-map}
use Rattle.tp_machine.specs.declared.machine.Machine.{Machine}
use Rattle.tp_machine.specs.declared.parts.ResId.{ResId}
use Rattle.tp_schedule.specs.Legality.{IsLegal}
use Rattle.tp_schedule.specs.Spots.{Slot, hold_in, slot_order}
use Rattle.tp_schedule.specs.declared.parts.Ask.{Ask}
use Rattle.tp_schedule.specs.declared.parts.Hold.{Hold}
use Rattle.tp_schedule.specs.declared.parts.Plan.{Plan}
use Rattle.tp_schedule.proofs.Pairs.{AllPairs-head, AllPairs-map, AllPairs-tail}
use Rattle.tp_schedule_check.specs.Holds.{IsAhead, held_plans, slot_of}
use Rattle.tp_schedule_check.specs.OrderDifferences.{AreOrdersKept, DoPart, IsCommon, IsFirstParting, IsParting, first_of, first_resource, hold_on, is_new_of, old_order, part_on, seen_slot}
use Rattle.tp_schedule_check.specs.declared.held.NumberedHold.{NumberedHold}
use Rattle.tp_schedule_check.specs.declared.parting.Parting.{Parting}
use Rattle.tp_schedule_check.proofs.EarlyFacts.{row-order}
use Rattle.tp_schedule_check.proofs.HeldFacts.{is_on, row}
use Rattle.tp_schedule_check.proofs.ListFacts.{take-whole}

-- ---- slots that are sorted by their resources
abbrev on : ℕ → Slot → Bool
on r s = s.rule.resource.0 == r

abbrev IsNoLater : Slot → Slot → Type 0
IsNoLater x y = x.rule.resource.0 ≤ y.rule.resource.0

-- the slot, if it is on the resource
abbrev on_it : ℕ → Option Slot → Option Slot
on_it r None = None
on_it r (Some s) = cond (on r s) (Some s) None

abbrev IsFrom : ℕ → Option Slot → Type 0
IsFrom r None = Unit {0}
IsFrom r (Some s) = r ≤ s.rule.resource.0

none-on : (r : ℕ) (zs : List Slot) → All (λ (s : Slot). r < s.rule.resource.0) zs → filter (on r) zs ≡ []
none-on r [] later = refl
none-on r (s ∷ zs) later = go (on r s) refl (none-on r zs (All-tail (λ (x : Slot). r < x.rule.resource.0) s zs later)) where
  behind : r < s.rule.resource.0
  behind = All-head (λ (x : Slot). r < x.rule.resource.0) s zs later

  go : (b : Bool) → on r s ≡ b → filter (on r) zs ≡ [] → cond b (s ∷ filter (on r) zs) (filter (on r) zs) ≡ []
  go true e none = absurd (grind (arith, nat_tests, behind))
  go false e none = none

first-on : (r : ℕ) (zs : List Slot) → AllPairs IsNoLater zs → IsFrom r (slice_get zs 0) → slice_get (filter (on r) zs) 0 ≡ on_it r (slice_get zs 0)
first-on r [] sorted from = refl
first-on r (s ∷ zs) sorted from = go (on r s) refl where
  later : (r ≡ s.rule.resource.0 → ⊥) → All (λ (x : Slot). r < x.rule.resource.0) zs
  later other = All-weaker (IsNoLater s) (λ (x : Slot). r < x.rule.resource.0) (λ x le. omega (arith, from, other)) zs (AllPairs-head IsNoLater s zs sorted)

  go : (b : Bool) → on r s ≡ b → slice_get (cond b (s ∷ filter (on r) zs) (filter (on r) zs)) 0 ≡ cond b (Some s) None
  go true e = refl
  go false e = ap (λ xs. slice_get xs 0) (none-on r zs (later (λ same. absurd (grind (arith, nat_tests)))))

-- where both are the same up to a place, the slots on a resource are the same up to one, and there each has what stands at the place, if that
-- is on the resource
record Parts (r : ℕ) (xs ys : List Slot) (x y : Option Slot) : Type 0 where
  place : ℕ
  alike : take place ys ≡ take place xs
  one : slice_get xs place ≡ on_it r x
  other : slice_get ys place ≡ on_it r y

parts : (r : ℕ) (xs ys : List Slot) (n : ℕ) → AllPairs IsNoLater xs → AllPairs IsNoLater ys → take n ys ≡ take n xs → IsFrom r (slice_get xs n) → IsFrom r (slice_get ys n)
    → Parts r (filter (on r) xs) (filter (on r) ys) (slice_get xs n) (slice_get ys n)
parts r xs ys zero sorted sorted' same from from' = record { place = 0; alike = refl; one = first-on r xs sorted from; other = first-on r ys sorted' from' }
parts r [] [] (suc n) sorted sorted' same from from' = record { place = 0; alike = refl; one = refl; other = refl }
parts r [] (y ∷ ys) (suc n) sorted sorted' same from from' = absurd cc
parts r (x ∷ xs) [] (suc n) sorted sorted' same from from' = absurd cc
parts r (x ∷ xs) (y ∷ ys) (suc n) sorted sorted' same from from' =
    subst (λ z. Parts r (filter (on r) (x ∷ xs)) (filter (on r) (z ∷ ys)) (slice_get xs n) (slice_get ys n)) head (go (on r x) (parts r xs ys n (AllPairs-tail IsNoLater x xs sorted) (AllPairs-tail IsNoLater y ys sorted') tail from from'))
  where
    head : x ≡ y
    head = cc

    tail : take n ys ≡ take n xs
    tail = cc

    go : (b : Bool) → Parts r (filter (on r) xs) (filter (on r) ys) (slice_get xs n) (slice_get ys n)
        → Parts r (cond b (x ∷ filter (on r) xs) (filter (on r) xs)) (cond b (x ∷ filter (on r) ys) (filter (on r) ys)) (slice_get xs n) (slice_get ys n)
    go true p = record { place = suc p.place; alike = ap (λ zs. x ∷ zs) p.alike; one = p.one; other = p.other }
    go false p = p

-- ---- holds as slots
slots-on : (r : ℕ) (hs : List NumberedHold) → row r hs ≡ filter (on r) (map slot_of hs)
slots-on r [] = refl
slots-on r (h ∷ hs) = go (is_on r h) (slots-on r hs) where
  go : (b : Bool) → row r hs ≡ filter (on r) (map slot_of hs)
      → map slot_of (cond b (h ∷ filter (is_on r) hs) (filter (is_on r) hs)) ≡ cond b (slot_of h ∷ filter (on r) (map slot_of hs)) (filter (on r) (map slot_of hs))
  go true rest = ap (λ xs. slot_of h ∷ xs) rest
  go false rest = rest

-- a row without some of its slots
less-row : (p : Slot → Bool) (r : ℕ) (hs : List NumberedHold) → filter p (row r hs) ≡ row r (filter (λ h. p (slot_of h)) hs)
less-row p r [] = refl
less-row p r (h ∷ hs) = go (is_on r h) refl (p (slot_of h)) refl (less-row p r hs) where
  go : (b : Bool) → is_on r h ≡ b → (c : Bool) → p (slot_of h) ≡ c → filter p (row r hs) ≡ row r (filter (λ g. p (slot_of g)) hs)
      → filter p (map slot_of (cond b (h ∷ filter (is_on r) hs) (filter (is_on r) hs))) ≡ row r (cond c (h ∷ filter (λ g. p (slot_of g)) hs) (filter (λ g. p (slot_of g)) hs))
  go true e true f rest = rw (e, f) (ap (λ xs. slot_of h ∷ xs) rest)
  go true e false f rest = rw f rest
  go false e true f rest = rw e rest
  go false e false f rest = rest

hold-on : (r : ResId) (o : Option NumberedHold) → hold_on r o ≡ option_map hold_in (on_it r.0 (seen_slot o))
hold-on r None = refl
hold-on r (Some h) = go (h.rule.resource.0 == r.0) where
  go : (b : Bool) → cond b (Some h.hold) None ≡ option_map hold_in (cond b (Some (slot_of h)) None)
  go true = refl
  go false = refl

ahead-later : (x y : NumberedHold) → IsAhead x y → IsNoLater (slot_of x) (slot_of y)
ahead-later x y (inl less) = omega arith
ahead-later x y (inr same) = let e = same.0 in omega arith

sorted-slots : (hs : List NumberedHold) → AllPairs IsAhead hs → AllPairs IsNoLater (map slot_of hs)
sorted-slots hs ahead = AllPairs-map IsAhead IsNoLater (λ _. Unit {0}) slot_of hs (λ k d within. tt) ahead (λ x y _ _ a. ahead-later x y a)

-- ---- the lists that were looked at
from-first : (x y : Option NumberedHold) (r : ResId) → first_resource x y ≡ Some r → IsFrom r.0 (seen_slot x) × IsFrom r.0 (seen_slot y)
from-first None None r e = absurd cc
from-first None (Some y) r e = let same : y.rule.resource ≡ r = cc in (tt, let n = ap (λ (q : ResId). q.0) same in omega arith)
from-first (Some x) None r e = let same : x.rule.resource ≡ r = cc in (let n = ap (λ (q : ResId). q.0) same in omega arith, tt)
from-first (Some x) (Some y) r e = go (nat_lt y.rule.resource.0 x.rule.resource.0) refl first where
  first : first_of x y ≡ r
  first = cc

  go : (b : Bool) → nat_lt y.rule.resource.0 x.rule.resource.0 ≡ b → cond b y.rule.resource x.rule.resource ≡ r → (r.0 ≤ x.rule.resource.0) × (r.0 ≤ y.rule.resource.0)
  go true f same = let n = ap (λ (q : ResId). q.0) same in let less : y.rule.resource.0 < x.rule.resource.0 = grind (arith, nat_tests) in (omega arith, omega arith)
  go false f same = let n = ap (λ (q : ResId). q.0) same in let le : x.rule.resource.0 ≤ y.rule.resource.0 = grind (arith, nat_tests) in (omega arith, omega arith)

-- one of both is on it
is-on-first : (x y : Option NumberedHold) (r : ResId) → first_resource x y ≡ Some r → on_it r.0 (seen_slot x) ≡ on_it r.0 (seen_slot y) → seen_slot x ≡ seen_slot y
is-on-first None None r e same = absurd cc
is-on-first None (Some y) r e same = absurd (go (on r.0 (slot_of y)) refl same) where
  here : y.rule.resource ≡ r
  here = cc

  go : (b : Bool) → on r.0 (slot_of y) ≡ b → None ≡ cond b (Some (slot_of y)) None → ⊥
  go true f none = cc
  go false f none = let n = ap (λ (q : ResId). q.0) here in grind (arith, nat_tests)
is-on-first (Some x) None r e same = absurd (go (on r.0 (slot_of x)) refl same) where
  here : x.rule.resource ≡ r
  here = cc

  go : (b : Bool) → on r.0 (slot_of x) ≡ b → cond b (Some (slot_of x)) None ≡ None → ⊥
  go true f none = cc
  go false f none = let n = ap (λ (q : ResId). q.0) here in grind (arith, nat_tests)
is-on-first (Some x) (Some y) r e same = go (on r.0 (slot_of x)) refl (on r.0 (slot_of y)) refl same where
  either : (b : Bool) → nat_lt y.rule.resource.0 x.rule.resource.0 ≡ b → cond b y.rule.resource x.rule.resource ≡ r → on r.0 (slot_of x) ≡ false → on r.0 (slot_of y) ≡ false → ⊥
  either true f is g h = let n = ap (λ (q : ResId). q.0) is in grind (arith, nat_tests)
  either false f is g h = let n = ap (λ (q : ResId). q.0) is in grind (arith, nat_tests)

  first : first_of x y ≡ r
  first = cc

  go : (b : Bool) → on r.0 (slot_of x) ≡ b → (c : Bool) → on r.0 (slot_of y) ≡ c → cond b (Some (slot_of x)) None ≡ cond c (Some (slot_of y)) None → Some (slot_of x) ≡ Some (slot_of y)
  go true f true g is = is
  go true f false g is = absurd cc
  go false f true g is = absurd cc
  go false f false g is = absurd (either (nat_lt y.rule.resource.0 x.rule.resource.0) refl first f g)

none-first : (x y : Option NumberedHold) → first_resource x y ≡ None → (x ≡ None) × (y ≡ None)
none-first None None e = (refl, refl)
none-first None (Some y) e = absurd cc
none-first (Some x) None e = absurd cc
none-first (Some x) (Some y) e = absurd cc

none-within : {X : Type 0} (xs : List X) (n : ℕ) → slice_get xs n ≡ None → length xs ≤ n
none-within [] n e = omega arith
none-within (x ∷ xs) zero e = absurd cc
none-within (x ∷ xs) (suc n) e = let r = none-within xs n e in omega arith

module _ (xs ys : List NumberedHold) (ahead : AllPairs IsAhead xs) (ahead' : AllPairs IsAhead ys) (n : ℕ) (common : IsCommon xs ys n) where
  same-slots : slice_get xs n ≡ None → slice_get ys n ≡ None → map slot_of ys ≡ map slot_of xs
  same-slots none none' =
      ap (map slot_of) (sym (take-whole ys n (none-within ys n none'))) ∙ common.alike ∙ ap (map slot_of) (take-whole xs n (none-within xs n none))

  same-rows : slice_get xs n ≡ None → slice_get ys n ≡ None → (r : ℕ) → row r ys ≡ row r xs
  same-rows none none' r = slots-on r ys ∙ ap (filter (on r)) (same-slots none none') ∙ sym (slots-on r xs)

  alike-slots : take n (map slot_of ys) ≡ take n (map slot_of xs)
  alike-slots = take-map slot_of n ys ∙ common.alike ∙ sym (take-map slot_of n xs)

  rows-part : (r : ResId) → first_resource (slice_get xs n) (slice_get ys n) ≡ Some r → DoPart (row r.0 xs) (row r.0 ys) (hold_on r (slice_get xs n)) (hold_on r (slice_get ys n))
  rows-part r first =
      let x = slice_get-map slot_of xs n in
      let y = slice_get-map slot_of ys n in
      let from = from-first (slice_get xs n) (slice_get ys n) r first in
      let p = parts r.0 (map slot_of xs) (map slot_of ys) n (sorted-slots xs ahead) (sorted-slots ys ahead') alike-slots (subst (IsFrom r.0) (sym x) from.0) (subst (IsFrom r.0) (sym y) from.1) in
      let one : slice_get (filter (on r.0) (map slot_of xs)) p.place ≡ on_it r.0 (seen_slot (slice_get xs n)) = p.one ∙ ap (on_it r.0) x in
      let other : slice_get (filter (on r.0) (map slot_of ys)) p.place ≡ on_it r.0 (seen_slot (slice_get ys n)) = p.other ∙ ap (on_it r.0) y in
      subst (λ zs. DoPart zs (row r.0 ys) (hold_on r (slice_get xs n)) (hold_on r (slice_get ys n))) (sym (slots-on r.0 xs))
      (subst (λ zs. DoPart (filter (on r.0) (map slot_of xs)) zs (hold_on r (slice_get xs n)) (hold_on r (slice_get ys n))) (sym (slots-on r.0 ys))
      (record {
        place = p.place;
        alike = p.alike;
        stood_is = hold-on r (slice_get xs n) ∙ ap (option_map hold_in) (sym one);
        stands_is = hold-on r (slice_get ys n) ∙ ap (option_map hold_in) (sym other);
        differ = λ same. differ (is-on-first (slice_get xs n) (slice_get ys n) r first (sym one ∙ same ∙ other)) first;
      }))
    where
      differ : seen_slot (slice_get xs n) ≡ seen_slot (slice_get ys n) → first_resource (slice_get xs n) (slice_get ys n) ≡ Some r → ⊥
      differ same is =
          let ends = common.ends same in
          let none : first_resource None None ≡ Some r = subst (λ o. first_resource o None ≡ Some r) ends.0 (subst (λ o. first_resource (slice_get xs n) o ≡ Some r) ends.1 is) in
          cc

-- ---- what was found
pub first-parting : (xs ys : List NumberedHold) (n : ℕ) → IsCommon xs ys n → (x y : Option NumberedHold) → x ≡ slice_get xs n → y ≡ slice_get ys n → (r : ResId) → first_resource x y ≡ Some r
    → (stood stands : Option Hold) → stood ≡ hold_on r x → stands ≡ hold_on r y → IsFirstParting xs ys (Some (record { resource = r; stood = stood; stands = stands }))
first-parting xs ys n common x y at at' r first stood stands one other = record {
  place = n;
  common = common;
  is =
      (λ i. Some (record { resource = r; stood = one i; stands = other i }))
      ∙ ap (λ o. part_on o x y) (sym first)
      ∙ (λ i. part_on (first_resource (at i) (at' i)) (at i) (at' i));
}

pub no-parting : (xs ys : List NumberedHold) (n : ℕ) → IsCommon xs ys n → (x y : Option NumberedHold) → x ≡ slice_get xs n → y ≡ slice_get ys n → first_resource x y ≡ None → IsFirstParting xs ys None
no-parting xs ys n common x y at at' none = record {
  place = n;
  common = common;
  is = ap (λ o. part_on o x y) (sym none) ∙ (λ i. part_on (first_resource (at i) (at' i)) (at i) (at' i));
}

-- ---- orders of legal schedules
module _ (machine : Machine) (asked : Option Ask) (plans plans' : List Plan) (legal : IsLegal machine plans) (legal' : IsLegal machine plans')
    (hs gs : List NumberedHold) (same : IsPermutation (held_plans machine 0 plans) hs) (ahead : AllPairs IsAhead hs) (same' : IsPermutation (held_plans machine 0 plans') gs) (ahead' : AllPairs IsAhead gs) where
  abbrev old : List NumberedHold
  old = filter (λ (h : NumberedHold). not (is_new_of asked (slot_of h))) gs

  ahead-old : AllPairs IsAhead old
  ahead-old = AllPairs-filter IsAhead (λ (h : NumberedHold). not (is_new_of asked (slot_of h))) gs ahead'

  order-before : (r : ℕ) → slot_order machine plans r ≡ row r hs
  order-before r = row-order machine plans legal hs same ahead r

  order-after : (r : ℕ) → old_order machine asked plans' r ≡ row r old
  order-after r = ap (filter (λ s. not (is_new_of asked s))) (row-order machine plans' legal' gs same' ahead' r) ∙ less-row (λ s. not (is_new_of asked s)) r gs

  abbrev Says : Option Parting → Type 0
  Says o = MatchOption o (AreOrdersKept machine asked plans plans') (IsParting machine asked plans plans')

  pub parting-says : (found : Option Parting) → IsFirstParting hs old found → Says found
  parting-says found first = go (first_resource (slice_get hs first.place) (slice_get old first.place)) refl where
    go : (o : Option ResId) → first_resource (slice_get hs first.place) (slice_get old first.place) ≡ o → Says found
    go None e =
        let none = none-first (slice_get hs first.place) (slice_get old first.place) e in
        let is : found ≡ None = first.is ∙ ap (λ o. part_on o (slice_get hs first.place) (slice_get old first.place)) e in
        subst Says (sym is) (λ r. order-after r ∙ same-rows hs old ahead ahead-old first.place first.common none.0 none.1 r ∙ sym (order-before r))
    go (Some r) e =
        let is : found ≡ part_on (Some r) (slice_get hs first.place) (slice_get old first.place) = first.is ∙ ap (λ o. part_on o (slice_get hs first.place) (slice_get old first.place)) e in
        subst Says (sym is)
        (subst (λ zs. DoPart zs (old_order machine asked plans' r.0) (hold_on r (slice_get hs first.place)) (hold_on r (slice_get old first.place))) (sym (order-before r.0))
        (subst (λ zs. DoPart (row r.0 hs) zs (hold_on r (slice_get hs first.place)) (hold_on r (slice_get old first.place))) (sym (order-after r.0))
        (rows-part hs old ahead ahead-old first.place first.common r e)))
