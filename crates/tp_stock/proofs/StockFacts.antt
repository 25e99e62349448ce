-- Counts of plans that are parted, and the free stock of what is left.
use Rattle.std.proofs.Common.{◌≡◌, ◌≢◌, ℕ, zero, suc, ◌+◌, ◌<◌, ◌≤◌, ◌==◌, ◌||◌, eqb, Bool, true, false, cond, not, List, [], ◌∷◌, length, map, filter, set, get_or-set_other, get_or-set_same, length-set, refl, sym, ap, ◌∙◌, subst, inl, inr, arith, All, Contains, Option, Some, None, pos, ◌+ℤ◌, ◌-ℤ◌, ◌≤ℤ◌}
use Rattle.std.specs.Prelude.{IfSome, ◌&&◌, count_by, find, get_or, is_some, option_and_then, position, ℤ}
use Rattle.std.specs.Str.{bytes_eq}
use Rattle.std.proofs.lemmas.Option.{same_Some}
use Rattle.std.specs.List.{fold, list_any, range_with_len}
use Rattle.std.specs.Option.{option_eq}
use Rattle.std.specs.Ordering.{int_eq}
use Rattle.std.proofs.lemmas.Int.{ints}
use Rattle.std.proofs.lemmas.Bool.{eqb-true, eq-eqb}
use Rattle.std.proofs.lemmas.Bool.Decides.{nat_tests}
use Rattle.std.proofs.lemmas.List.Elements.{All-contains, All-filter, All-head, All-tail}
use Rattle.std.proofs.lemmas.List.FromFn.{fill_by_all, get_or-map-range_with_len, length-map-range_with_len}
use Rattle.std.proofs.lemmas.List.Sums.{sum_by-cons}
use Rattle.tp_machine.specs.Machines.{IsLocation, IsOpenLocation}
use Rattle.tp_machine.specs.declared.parts.Feeder.{Feeder}
use Rattle.tp_machine.specs.declared.machine.Machine.{Machine}
use Rattle.tp_machine.proofs.MachineFacts.{is_machine}
use Rattle.tp_machine.specs.declared.parts.LocId.{LocId}
use Rattle.tp_schedule.proofs.Membership.{All-from_contains, Contains-cons_cases, Contains-filter, Contains-here, Contains-later}
use Rattle.tp_schedule.proofs.SetFacts.{has-with}
use Rattle.tp_schedule.specs.LocationSets.{has, nowhere, with}
use Rattle.tp_schedule.specs.declared.parts.Empties.{Empties}
use Rattle.tp_schedule.specs.declared.parts.Plan.{Plan}
use Rattle.tp_stock.specs.Laws.{ForgettingKeepsEmpties, ForgettingKeepsStock}
use Rattle.tp_stock.specs.Stock.{IsNotOverdrawn, begins_at, by_location, drawn_at, empties, feeder_at, feeder_named, free_of, free_stock, is_counted, is_empty, left_of, less_taken, more_at, no_refills, refilled, taken_at}

pub at-location : {X : Type 0} (f : ℕ → X) (loc : ℕ) (d : X) → loc < 256 → get_or (by_location f) loc d ≡ f loc
unfolding by_location
at-location f loc d within = get_or-map-range_with_len f 0 256 loc loc d within (omega arith)

pub count-cons : {X : Type 0} (p : X → Bool) (x : X) (xs : List X) → count_by p (x ∷ xs) ≡ cond (p x) 1 0 + count_by p xs
count-cons p x xs = sum_by-cons (λ y. cond (p y) 1 0) x xs

-- what is counted of all is counted of either part
pub parted : {X : Type 0} (p stays : X → Bool) (xs : List X) → count_by p (filter stays xs) + count_by p (filter (λ x. not (stays x)) xs) ≡ count_by p xs
parted p stays [] = refl
parted {X} p stays (x ∷ xs) = go (stays x) (parted p stays xs)
  where
    go : (s : Bool) → count_by p (filter stays xs) + count_by p (filter (λ y. not (stays y)) xs) ≡ count_by p xs
        → count_by p (cond s (x ∷ filter stays xs) (filter stays xs)) + count_by p (cond (not s) (x ∷ filter (λ y. not (stays y)) xs) (filter (λ y. not (stays y)) xs)) ≡ count_by p (x ∷ xs)
    go true rest = omega (arith, count-cons p x (filter stays xs), count-cons p x xs, rest)
    go false rest = omega (arith, count-cons p x (filter (λ y. not (stays y)) xs), count-cons p x xs, rest)

pub feeder-known : (machine : Machine) (f : Feeder) → Contains machine.feeders f → f.loc.0 < 256
feeder-known machine f in' =
    let known = (All-contains (λ g. IsLocation machine g.loc × IsOpenLocation machine g.loc) machine.feeders f (is_machine machine).feeders in').0 in
    let few = (is_machine machine).locations.1 in
    omega arith

-- at a feeder with a stock the sheets are counted
pub counted-there : (machine : Machine) (f : Feeder) (stock : ℕ) → Contains machine.feeders f → f.stock ≡ Some stock → is_counted machine f.loc.0 ≡ true
counted-there machine f stock in' is = go machine.feeders in' where
  same-at : (n : ℕ) → (n == n) ≡ true
  same-at n = grind (arith, nat_tests)

  or-any : (b c : Bool) → c ≡ true → (b || c) ≡ true
  or-any true c e = refl
  or-any false c e = e

  go : (fs : List Feeder) → Contains fs f → list_any (λ (g : Feeder). (g.loc.0 == f.loc.0) && is_some g.stock) fs ≡ true
  go [] at = absurd (omega (arith, at.1))
  go (g ∷ fs) at = elim (Contains-cons_cases g fs f at) [
    | inl same ↦
        subst (λ (h : Feeder). (((h.loc.0 == f.loc.0) && is_some h.stock) || list_any (λ (g : Feeder). (g.loc.0 == f.loc.0) && is_some g.stock) fs) ≡ true) (sym same)
        (rw (same-at f.loc.0, is) refl)
    | inr later ↦ or-any ((g.loc.0 == f.loc.0) && is_some g.stock) (list_any (λ (g : Feeder). (g.loc.0 == f.loc.0) && is_some g.stock) fs) (go fs later)
  ]

pub drawn-there : (machine : Machine) (plans : List Plan) (f : Feeder) (stock : ℕ) → Contains machine.feeders f → f.stock ≡ Some stock → drawn_at machine plans f.loc.0 ≡ taken_at machine plans f.loc.0
drawn-there machine plans f stock in' is = ap (λ b. cond b (taken_at machine plans f.loc.0) 0) (counted-there machine f stock in' is)

-- no more is taken of a stock than is taken
pub drawn-few : (machine : Machine) (plans : List Plan) (loc : ℕ) → drawn_at machine plans loc ≤ taken_at machine plans loc
drawn-few machine plans loc = go (is_counted machine loc) where
  go : (b : Bool) → cond b (taken_at machine plans loc) 0 ≤ taken_at machine plans loc
  go true = omega arith
  go false = omega arith

pub keeps-stock : ForgettingKeepsStock
keeps-stock machine refills plans stays f in' = go f.stock refl where
  gone : List Plan
  gone = filter (λ p. not (stays p)) plans

  more : refilled (less_taken machine gone refills) f.loc.0 ≡ refilled refills f.loc.0 -ℤ pos (drawn_at machine gone f.loc.0)
  more = at-location (λ loc. refilled refills loc -ℤ pos (drawn_at machine gone loc)) f.loc.0 (pos 0) (feeder-known machine f in')

  sums : (stock : ℕ) (r : ℤ) (gone left all : ℕ) → left + gone ≡ all → (pos stock +ℤ (r -ℤ pos gone)) -ℤ pos left ≡ (pos stock +ℤ r) -ℤ pos all
  sums stock r gone left all e = omega (arith, ints)

  go : (o : Option ℕ) → f.stock ≡ o → free_of o (refilled (less_taken machine gone refills) f.loc.0) (taken_at machine (filter stays plans) f.loc.0) ≡ free_of o (refilled refills f.loc.0) (taken_at machine plans f.loc.0)
  go None e = refl
  go (Some stock) e = rw (more, drawn-there machine gone f stock in' e) (ap Some (sums stock (refilled refills f.loc.0) (taken_at machine gone f.loc.0) (taken_at machine (filter stays plans) f.loc.0) (taken_at machine plans f.loc.0)
      (parted (begins_at machine f.loc.0) stays plans)))

filter-same : {X : Type 0} (p q : X → Bool) (xs : List X) → ((x : X) → Contains xs x → p x ≡ q x) → filter p xs ≡ filter q xs
filter-same p q [] each = refl
filter-same p q (x ∷ xs) each =
    let first = each x (Contains-here x xs) in
    let rest = filter-same p q xs (λ y in'. each y (Contains-later x xs y in')) in
    rw (first, rest) refl

pub keeps-empties : ForgettingKeepsEmpties
keeps-empties machine refills plans stays =
    let less = less_taken machine (filter (λ p. not (stays p)) plans) refills in
    ap (fold (λ (set : Empties) (f : Feeder). with set f.loc) nowhere)
    (filter-same (is_empty machine less (filter stays plans)) (is_empty machine refills plans) machine.feeders
    (λ f in'. ap (λ o. option_eq int_eq o (Some (pos 0))) (keeps-stock machine refills plans stays f in')))

-- the same number at each location
by-same : (f g : ℕ → ℤ) → ((loc : ℕ) → loc < 256 → f loc ≡ g loc) → by_location f ≡ by_location g
unfolding by_location
by-same f g each = fill_by_all g (map f (range_with_len 0 256)) 256 (pos 0) (length-map-range_with_len f 0 256)
    (λ loc within. get_or-map-range_with_len f 0 256 loc loc (pos 0) within (omega arith) ∙ each loc within)

-- what was counted before, less what is still counted, is what is gone
pub forgets : (machine : Machine) (refills : List ℤ) (counted : List Bool) (before after : List ℕ) (plans left : List Plan) (stays : Plan → Bool) → counted ≡ by_location (is_counted machine)
    → before ≡ by_location (taken_at machine plans) → after ≡ by_location (taken_at machine left) → left ≡ filter stays plans
    → by_location (λ loc. left_of (get_or counted loc false) (refilled refills loc) (get_or before loc 0) (get_or after loc 0)) ≡ less_taken machine (filter (λ p. not (stays p)) plans) refills
forgets machine refills counted before after plans left stays marks was is some = by-same _ _ (λ loc within.
    let m : get_or counted loc false ≡ is_counted machine loc = ap (λ xs. get_or xs loc false) marks ∙ at-location (is_counted machine) loc false within in
    let b : get_or before loc 0 ≡ taken_at machine plans loc = ap (λ xs. get_or xs loc 0) was ∙ at-location (taken_at machine plans) loc 0 within in
    let a : get_or after loc 0 ≡ taken_at machine (filter stays plans) loc = ap (λ xs. get_or xs loc 0) is ∙ at-location (taken_at machine left) loc 0 within ∙ ap (λ ps. taken_at machine ps loc) some in
    ap (λ c. left_of c (refilled refills loc) (get_or before loc 0) (get_or after loc 0)) m
    ∙ sums (is_counted machine loc) (refilled refills loc) (get_or after loc 0) (get_or before loc 0) (taken_at machine (filter (λ p. not (stays p)) plans) loc)
    (let all = parted (begins_at machine loc) stays plans in omega (arith, all, a, b)))
  where
    sums : (counted : Bool) (r : ℤ) (left before gone : ℕ) → left + gone ≡ before → left_of counted r before left ≡ r -ℤ pos (cond counted gone 0)
    sums true r left before gone e = omega (arith, ints)
    sums false r left before gone e = omega (arith, ints)

pub by-same-counts : (f g : ℕ → ℕ) → ((loc : ℕ) → f loc ≡ g loc) → by_location f ≡ by_location g
unfolding by_location
by-same-counts f g each = fill_by_all g (map f (range_with_len 0 256)) 256 0 (length-map-range_with_len f 0 256)
    (λ loc within. get_or-map-range_with_len f 0 256 loc loc 0 within (omega arith) ∙ each loc)

-- what is free at a feeder by the counts
pub free-told : (machine : Machine) (refills : List ℤ) (plans : List Plan) (f : Feeder) (counts : List ℕ) (free : Option ℤ) → f.loc.0 < 256 → counts ≡ by_location (taken_at machine plans)
    → free ≡ free_of f.stock (refilled refills f.loc.0) (get_or counts f.loc.0 0) → free ≡ free_stock machine refills plans f
free-told machine refills plans f counts free within counted is =
    is ∙ ap (free_of f.stock (refilled refills f.loc.0)) (ap (λ xs. get_or xs f.loc.0 0) counted ∙ at-location (taken_at machine plans) f.loc.0 0 within)

-- the feeder at a location is known
find-there : (loc : ℕ) (fs : List Feeder) (f : Feeder) → find (λ (g : Feeder). g.loc.0 == loc) fs ≡ Some f → Contains fs f
find-there loc [] f e = absurd (cc)
find-there loc (g ∷ fs) f e = go (g.loc.0 == loc) refl (λ h. find-there loc fs f h) where
  go : (b : Bool) → (g.loc.0 == loc) ≡ b → (find (λ (g : Feeder). g.loc.0 == loc) fs ≡ Some f → Contains fs f) → Contains (g ∷ fs) f
  go true h later = let same : Some g ≡ Some f = rw h at e in subst (Contains (g ∷ fs)) (same_Some g f same) (Contains-here g fs)
  go false h later = Contains-later g fs f (later (rw h at e))

pub at-known : (machine : Machine) (o : Option Feeder) (loc : ℕ) → o ≡ feeder_at machine loc → IfSome o (λ f. f.loc.0 < 256)
at-known machine None loc e = tt
at-known machine (Some f) loc e = feeder-known machine f (find-there loc machine.feeders f (sym e))

pub named-known : (machine : Machine) (o : Option Feeder) (name : List ℕ) → o ≡ feeder_named machine name → IfSome o (λ f. f.loc.0 < 256)
named-known machine o name e = go (position (bytes_eq name) machine.locations) e where
  go : (at : Option ℕ) → o ≡ option_and_then (feeder_at machine) at → IfSome o (λ f. f.loc.0 < 256)
  go None e = rw e tt
  go (Some loc) e = at-known machine o loc e

-- what the counts say of a feeder
pub empty-told : (machine : Machine) (refills : List ℤ) (plans : List Plan) (f : Feeder) (counts : List ℕ) (free : Option ℤ) (b : Bool) → f.loc.0 < 256 → counts ≡ by_location (taken_at machine plans)
    → free ≡ free_of f.stock (refilled refills f.loc.0) (get_or counts f.loc.0 0) → b ≡ option_eq int_eq free (Some (pos 0)) → is_empty machine refills plans f ≡ b
empty-told machine refills plans f counts free b within counted is told =
    let taken : get_or counts f.loc.0 0 ≡ taken_at machine plans f.loc.0 = ap (λ xs. get_or xs f.loc.0 0) counted ∙ at-location (taken_at machine plans) f.loc.0 0 within in
    sym (told ∙ ap (λ o. option_eq int_eq o (Some (pos 0))) (is ∙ ap (free_of f.stock (refilled refills f.loc.0)) taken))

-- what more sheets and fewer plans leave, in either order
less-more-one : (r : ℤ) (n gone : ℕ) → (r +ℤ pos n) -ℤ pos gone ≡ (r -ℤ pos gone) +ℤ pos n
less-more-one r n gone = omega (arith, ints)

pub less-more : (machine : Machine) (gone : List Plan) (at count : ℕ) (refills : List ℤ) → less_taken machine gone (more_at at count refills) ≡ more_at at count (less_taken machine gone refills)
less-more machine gone at count refills = by-same _ _ (λ loc within.
    ap (λ r. r -ℤ pos (drawn_at machine gone loc)) (at-location (λ loc. refilled refills loc +ℤ pos (cond (loc == at) count 0)) loc (pos 0) within)
    ∙ less-more-one (refilled refills loc) (cond (loc == at) count 0) (drawn_at machine gone loc)
    ∙ ap (λ r. r +ℤ pos (cond (loc == at) count 0)) (sym (at-location (λ loc. refilled refills loc -ℤ pos (drawn_at machine gone loc)) loc (pos 0) within)))

-- plans that are forgotten one part after another
less-less-one : (r : ℤ) (first next all : ℕ) → first + next ≡ all → (r -ℤ pos first) -ℤ pos next ≡ r -ℤ pos all
less-less-one r first next all e = omega (arith, ints)

pub less-less : (machine : Machine) (first next all : List Plan) (refills : List ℤ) → ((loc : ℕ) → taken_at machine first loc + taken_at machine next loc ≡ taken_at machine all loc)
    → less_taken machine next (less_taken machine first refills) ≡ less_taken machine all refills
less-less machine first next all refills parts = by-same _ _ (λ loc within.
    ap (λ r. r -ℤ pos (drawn_at machine next loc)) (at-location (λ loc. refilled refills loc -ℤ pos (drawn_at machine first loc)) loc (pos 0) within)
    ∙ less-less-one (refilled refills loc) (drawn_at machine first loc) (drawn_at machine next loc) (drawn_at machine all loc)
    (both (is_counted machine loc) (taken_at machine first loc) (taken_at machine next loc) (taken_at machine all loc) (parts loc)))
  where
    both : (b : Bool) (first next all : ℕ) → first + next ≡ all → cond b first 0 + cond b next 0 ≡ cond b all 0
    both true first next all e = e
    both false first next all e = refl

-- nothing is forgotten of none
pub less-none : (machine : Machine) (gone : List Plan) → ((loc : ℕ) → taken_at machine gone loc ≡ 0) → less_taken machine gone no_refills ≡ no_refills
less-none machine gone none = by-same _ _ (λ loc within.
    ap (λ r. r -ℤ pos (drawn_at machine gone loc)) (at-location (λ loc. pos 0) loc (pos 0) within)
    ∙ ap (λ n. pos 0 -ℤ pos n) (nothing loc)) where
      nothing : (loc : ℕ) → drawn_at machine gone loc ≡ 0
      nothing loc = omega (arith, drawn-few machine gone loc, none loc)

-- a location beyond the last has no refills
beyond : {X : Type 0} (xs : List X) (loc : ℕ) (d : X) → length xs ≤ loc → get_or xs loc d ≡ d
beyond [] loc d high = refl
beyond (x ∷ xs) zero d high = absurd (omega arith)
beyond (x ∷ xs) (suc loc) d high = beyond xs loc d (omega arith)

pub at-none : {X : Type 0} (f : ℕ → X) (loc : ℕ) (d : X) → 256 ≤ loc → get_or (by_location f) loc d ≡ d
unfolding by_location
at-none f loc d high = beyond (map f (range_with_len 0 256)) loc d (omega (arith, length-map-range_with_len f 0 256))

-- the refills after one more
pub refilled-more : (at count : ℕ) (refills : List ℤ) (loc : ℕ) → loc < 256 → refilled (more_at at count refills) loc ≡ refilled refills loc +ℤ pos (cond (loc == at) count 0)
refilled-more at count refills loc within = at-location (λ loc. refilled refills loc +ℤ pos (cond (loc == at) count 0)) loc (pos 0) within

pub refilled-less : (machine : Machine) (gone : List Plan) (refills : List ℤ) (loc : ℕ) → loc < 256 → refilled (less_taken machine gone refills) loc ≡ refilled refills loc -ℤ pos (drawn_at machine gone loc)
refilled-less machine gone refills loc within = at-location (λ loc. refilled refills loc -ℤ pos (drawn_at machine gone loc)) loc (pos 0) within

-- one number changed
pub set-more : (at count : ℕ) (refills : List ℤ) → length refills ≡ 256 → at < 256 → set refills at (get_or refills at (pos 0) +ℤ pos count) ≡ more_at at count refills
unfolding by_location
set-more at count refills all within =
    fill_by_all (λ loc. refilled refills loc +ℤ pos (cond (loc == at) count 0)) (set refills at (get_or refills at (pos 0) +ℤ pos count)) 256 (pos 0) (simp length-set all)
    (λ loc low. go loc (eqb loc at) refl) where
      plus-none : (r : ℤ) → r ≡ r +ℤ pos 0
      plus-none r = omega (arith, ints)

      here : get_or (set refills at (get_or refills at (pos 0) +ℤ pos count)) at (pos 0) ≡ get_or refills at (pos 0) +ℤ pos count
      here = let low : at < length refills = omega (arith, all) in rw get_or-set_same refl

      go : (loc : ℕ) (b : Bool) → eqb loc at ≡ b → get_or (set refills at (get_or refills at (pos 0) +ℤ pos count)) loc (pos 0) ≡ get_or refills loc (pos 0) +ℤ pos (cond b count 0)
      go loc true same = subst (λ k. get_or (set refills at (get_or refills at (pos 0) +ℤ pos count)) k (pos 0) ≡ get_or refills k (pos 0) +ℤ pos count) (sym (eqb-true loc at same)) here
      go loc false other = let differ : loc ≢ at = λ e. (let k = eq-eqb loc at e in absurd cc) in rw get_or-set_other (plus-none (get_or refills loc (pos 0)))

-- more at a location is well for what is drawn, and so are fewer plans
pub drawn-fewer : (machine : Machine) (refills : List ℤ) (plans plans' : List Plan) → ((loc : ℕ) → taken_at machine plans' loc ≤ taken_at machine plans loc) → IsNotOverdrawn machine refills plans → IsNotOverdrawn machine refills plans'
drawn-fewer machine refills plans plans' fewer drawn f in' stock is = at (taken_at machine plans' f.loc.0) (taken_at machine plans f.loc.0) (pos stock +ℤ refilled refills f.loc.0) (fewer f.loc.0) (drawn f in' stock is)
  where
    at : (a b : ℕ) (z : ℤ) → a ≤ b → pos b ≤ℤ z → pos a ≤ℤ z
    at a b z le low = omega (arith, ints)

pub drawn-more : (machine : Machine) (at count : ℕ) (refills : List ℤ) (plans : List Plan) → IsNotOverdrawn machine refills plans → IsNotOverdrawn machine (more_at at count refills) plans
drawn-more machine at count refills plans drawn f in' stock is =
    rw (refilled-more at count refills f.loc.0 (feeder-known machine f in'))
    (up (pos (taken_at machine plans f.loc.0)) (pos stock) (refilled refills f.loc.0) (cond (f.loc.0 == at) count 0) (drawn f in' stock is))
  where
    up : (a b r : ℤ) (n : ℕ) → a ≤ℤ (b +ℤ r) → a ≤ℤ (b +ℤ (r +ℤ pos n))
    up a b r n low = omega (arith, ints)

-- what is forgotten is taken off the refills: as much is free
pub drawn-part : (machine : Machine) (refills : List ℤ) (plans : List Plan) (stays : Plan → Bool) → IsNotOverdrawn machine refills plans
    → IsNotOverdrawn machine (less_taken machine (filter (λ p. not (stays p)) plans) refills) (filter stays plans)
drawn-part machine refills plans stays drawn f in' stock is =
    rw (refilled-less machine (filter (λ p. not (stays p)) plans) refills f.loc.0 (feeder-known machine f in'), drawn-there machine (filter (λ p. not (stays p)) plans) f stock in' is)
    (off (taken_at machine (filter stays plans) f.loc.0) (taken_at machine (filter (λ p. not (stays p)) plans) f.loc.0) (taken_at machine plans f.loc.0) (pos stock) (refilled refills f.loc.0) (parted (begins_at machine f.loc.0) stays plans) (drawn f in' stock is))
  where
    off : (left gone all : ℕ) (b r : ℤ) → left + gone ≡ all → pos all ≤ℤ (b +ℤ r) → pos left ≤ℤ (b +ℤ (r -ℤ pos gone))
    off left gone all b r e low = omega (arith, ints)

-- an empty feeder is among the empties
has-kept : (fs : List Feeder) → All (λ f. f.loc.0 < 256) fs → (z : Empties) (l : LocId) → has z l ≡ true → has (fold (λ (set : Empties) (f : Feeder). with set f.loc) z fs) l ≡ true
has-kept [] known z l e = e
has-kept (f ∷ fs) known z l e =
    let low = All-head (λ (f : Feeder). f.loc.0 < 256) f fs known in
    let here : has (with z f.loc) l ≡ true = has-with z f.loc l low ∙ (rw e refl) in
    has-kept fs (All-tail (λ (f : Feeder). f.loc.0 < 256) f fs known) (with z f.loc) l here

has-there : (fs : List Feeder) → All (λ f. f.loc.0 < 256) fs → (z : Empties) (g : Feeder) → Contains fs g → has (fold (λ (set : Empties) (f : Feeder). with set f.loc) z fs) g.loc ≡ true
has-there [] known z g in' = absurd (omega (arith, in'.1))
has-there (f ∷ fs) known z g in' =
    let low = All-head (λ (f : Feeder). f.loc.0 < 256) f fs known in
    let rest = All-tail (λ (f : Feeder). f.loc.0 < 256) f fs known in
    elim (Contains-cons_cases f fs g in') [
      | inl is ↦
          let here : has (with z f.loc) f.loc ≡ true = has-with z f.loc f.loc low ∙ or-same (has z f.loc) f.loc.0 in
          subst (λ (h : Feeder). has (fold (λ (set : Empties) (f : Feeder). with set f.loc) (with z f.loc) fs) h.loc ≡ true) is (has-kept fs rest (with z f.loc) f.loc here)
      | inr later ↦ has-there fs rest (with z f.loc) g later
    ]
  where
    or-same : (b : Bool) (n : ℕ) → (b || (n == n)) ≡ true
    or-same b n = grind (arith, nat_tests)

pub has-empty : (machine : Machine) (refills : List ℤ) (plans : List Plan) (f : Feeder) → Contains machine.feeders f → is_empty machine refills plans f ≡ true → has (empties machine refills plans) f.loc ≡ true
has-empty machine refills plans f in' empty =
    has-there (filter (is_empty machine refills plans) machine.feeders)
    (All-filter (is_empty machine refills plans) (λ f. f.loc.0 < 256) machine.feeders (All-from_contains (λ f. f.loc.0 < 256) machine.feeders (λ g at. feeder-known machine g at))) nowhere f
    (Contains-filter (is_empty machine refills plans) machine.feeders f in' empty)

-- where a feeder has some left, a plan more draws no more than there is
pub some-left : (stock : ℕ) (more : ℤ) (taken : ℕ) → option_eq int_eq (free_of (Some stock) more taken) (Some (pos 0)) ≡ false → pos taken ≤ℤ (pos stock +ℤ more) → pos (taken + 1) ≤ℤ (pos stock +ℤ more)
some-left stock more taken some low = grind (arith, ints)
