-- No two holds of an order are of one action: their actions start at different points.
use Rattle.std.proofs.Common.{◌≡◌, ◌≢◌, ◌⊎◌, inl, inr, ℕ, zero, suc, ◌≤◌, ◌<◌, Bool, true, false, cond, ◌==◌, List, [], ◌∷◌, length, insert, refl, sym, ◌∙◌, ap, subst, arith, All, AllPairs, Contains, Option, Some, None}
use Rattle.std.specs.Prelude.{int_lt}
use Rattle.std.proofs.lemmas.List.Elements.{All-nil, All-cons, All-head, All-tail, All-append, All-contains}
use Rattle.std.proofs.lemmas.Bool.{eqb-true}
use Rattle.tp_machine.proofs.MachineFacts.{is_machine}
use Rattle.tp_machine.specs.ModuleUse.{action_at}
use Rattle.tp_machine.specs.declared.parts.ActId.{ActId}
use Rattle.tp_machine.specs.declared.parts.Action.{Action}
use Rattle.tp_machine.specs.declared.parts.HoldRule.{HoldRule}
use Rattle.tp_machine.specs.declared.machine.Machine.{Machine}
use Rattle.tp_schedule.specs.Choices.{Choice, placed, put_places}
use Rattle.tp_schedule.specs.Holders.{holds_of_act}
use Rattle.tp_schedule.specs.Plans.{is_before, is_same_copy, IsEarlier}
use Rattle.tp_schedule.specs.Spots.{Slot, Spot, Ticks, begin_at, by_begin, put_slot, slot_order, slots, slots_by, slots_from, slots_of, ticks_of}
use Rattle.tp_schedule.specs.Spots.Spot.{kept, own}
use Rattle.tp_schedule.specs.declared.parts.Plan.{Plan}
use Rattle.tp_schedule.specs.declared.parts.SheetId.{SheetId}
use Rattle.tp_schedule.proofs.CopyFacts.{before-not_same, same_copy-refl}
use Rattle.tp_schedule.proofs.Membership.{All-from_contains, Contains-here, Contains-later}
use Rattle.tp_schedule.proofs.Pairs.{AllPairs-append, AllPairs-cons, AllPairs-head, AllPairs-nil, AllPairs-tail}
use Rattle.tp_schedule.proofs.PutFacts.{All-insert}
use Rattle.tp_constraints.specs.Suffixes.{Suffix, order_in}

abbrev pub Apart : Slot → Slot → Type 0
Apart x y = x.from ≢ y.from

apart-sym : (x y : Slot) → Apart x y → Apart y x
apart-sym x y a e = a (sym e)

abbrev StartsAt : Spot → Slot → Type 0
StartsAt s x = x.from ≡ s

abbrev Elsewhere : Spot → Slot → Type 0
Elsewhere s x = x.from ≢ s

-- ---- lists
insert-apart : (xs : List Slot) (i : ℕ) (s : Slot) → AllPairs Apart xs → All (Apart s) xs → AllPairs Apart (insert xs i s)
insert-apart [] zero s pairs all = AllPairs-cons Apart s [] (All-nil (Apart s)) (AllPairs-nil Apart)
insert-apart [] (suc i) s pairs all = AllPairs-cons Apart s [] (All-nil (Apart s)) (AllPairs-nil Apart)
insert-apart (x ∷ xs) zero s pairs all = AllPairs-cons Apart s (x ∷ xs) all pairs
insert-apart (x ∷ xs) (suc i) s pairs all =
    AllPairs-cons Apart x (insert xs i s) (All-insert (Apart x) xs i s (AllPairs-head Apart x xs pairs) (apart-sym s x (All-head (Apart s) x xs all))) (insert-apart xs i s (AllPairs-tail Apart x xs pairs) (All-tail (Apart s) x xs all))

put-all : (P : Slot → Type 0) (t : Ticks) (s : Slot) (xs : List Slot) → P s → All P xs → All P (put_slot t s xs)
put-all P t s [] here all = All-cons P s [] here all
put-all P t s (x ∷ xs) here all = go (int_lt (begin_at t s) (begin_at t x)) (put-all P t s xs here (All-tail P x xs all)) where
  go : (b : Bool) → All P (put_slot t s xs) → All P (cond b (s ∷ x ∷ xs) (x ∷ put_slot t s xs))
  go true rest = All-cons P s (x ∷ xs) here all
  go false rest = All-cons P x (put_slot t s xs) (All-head P x xs all) rest

put-apart : (t : Ticks) (s : Slot) (xs : List Slot) → AllPairs Apart xs → All (Apart s) xs → AllPairs Apart (put_slot t s xs)
put-apart t s [] pairs all = AllPairs-cons Apart s [] (All-nil (Apart s)) (AllPairs-nil Apart)
put-apart t s (x ∷ xs) pairs all = go (int_lt (begin_at t s) (begin_at t x)) (put-apart t s xs (AllPairs-tail Apart x xs pairs) (All-tail (Apart s) x xs all)) where
  go : (b : Bool) → AllPairs Apart (put_slot t s xs) → AllPairs Apart (cond b (s ∷ x ∷ xs) (x ∷ put_slot t s xs))
  go true rest = AllPairs-cons Apart s (x ∷ xs) all pairs
  go false rest = AllPairs-cons Apart x (put_slot t s xs) (put-all (Apart x) t s xs (apart-sym s x (All-head (Apart s) x xs all)) (AllPairs-head Apart x xs pairs)) rest

sort-all : (P : Slot → Type 0) (t : Ticks) (xs : List Slot) → All P xs → All P (by_begin t xs)
sort-all P t [] all = all
sort-all P t (x ∷ xs) all = put-all P t x (by_begin t xs) (All-head P x xs all) (sort-all P t xs (All-tail P x xs all))

sort-apart : (t : Ticks) (xs : List Slot) → AllPairs Apart xs → AllPairs Apart (by_begin t xs)
sort-apart t [] pairs = pairs
sort-apart t (x ∷ xs) pairs = put-apart t x (by_begin t xs) (sort-apart t xs (AllPairs-tail Apart x xs pairs)) (sort-all (Apart x) t xs (AllPairs-head Apart x xs pairs))

-- ---- an action holds a resource once
abbrev OnOthers : List HoldRule → Type 0
OnOthers rules = AllPairs (λ h k. h.resource.0 ≢ k.resource.0) rules

rules-differ : (machine : Machine) (n : ℕ) → OnOthers (holds_of_act (action_at machine n))
rules-differ machine n = go (action_at machine n) refl where
  go : (o : Option Action) → action_at machine n ≡ o → OnOthers (holds_of_act o)
  go None e = AllPairs-nil (λ h k. h.resource.0 ≢ k.resource.0)
  go (Some a) e = (is_machine machine).differ n a e

none-by : (resource : ℕ) (from to : Spot) (h : HoldRule) (rules : List HoldRule) → h.resource.0 ≡ resource → All (λ k. h.resource.0 ≢ k.resource.0) rules → slots_by resource from to rules ≡ []
none-by resource from to h [] e all = refl
none-by resource from to h (k ∷ rules) e all = go (k.resource.0 == resource) refl (none-by resource from to h rules e (All-tail (λ k. h.resource.0 ≢ k.resource.0) k rules all)) where
  go : (b : Bool) → (k.resource.0 == resource) ≡ b → slots_by resource from to rules ≡ [] → cond b (record { rule = k; from = from; to = to } ∷ slots_by resource from to rules) (slots_by resource from to rules) ≡ []
  go true u rest = absurd (All-head (λ k. h.resource.0 ≢ k.resource.0) k rules all (e ∙ sym (eqb-true k.resource.0 resource u)))
  go false u rest = rest

by-apart : (resource : ℕ) (from to : Spot) (rules : List HoldRule) → OnOthers rules → AllPairs Apart (slots_by resource from to rules)
by-apart resource from to [] pairs = AllPairs-nil Apart
by-apart resource from to (h ∷ rules) pairs = go (h.resource.0 == resource) refl (by-apart resource from to rules (AllPairs-tail (λ h k. h.resource.0 ≢ k.resource.0) h rules pairs)) where
  go : (b : Bool) → (h.resource.0 == resource) ≡ b → AllPairs Apart (slots_by resource from to rules) → AllPairs Apart (cond b (record { rule = h; from = from; to = to } ∷ slots_by resource from to rules) (slots_by resource from to rules))
  go true u rest =
      let none = none-by resource from to h rules (eqb-true h.resource.0 resource u) (AllPairs-head (λ h k. h.resource.0 ≢ k.resource.0) h rules pairs) in
      subst (λ xs. AllPairs Apart (record { rule = h; from = from; to = to } ∷ xs)) (sym none) (AllPairs-cons Apart (record { rule = h; from = from; to = to }) [] (All-nil (Apart (record { rule = h; from = from; to = to }))) (AllPairs-nil Apart))
  go false u rest = rest

by-starts : (resource : ℕ) (from to : Spot) (rules : List HoldRule) → All (StartsAt from) (slots_by resource from to rules)
by-starts resource from to [] = All-nil (StartsAt from)
by-starts resource from to (h ∷ rules) = go (h.resource.0 == resource) (by-starts resource from to rules) where
  go : (b : Bool) → All (StartsAt from) (slots_by resource from to rules) → All (StartsAt from) (cond b (record { rule = h; from = from; to = to } ∷ slots_by resource from to rules) (slots_by resource from to rules))
  go true rest = All-cons (StartsAt from) (record { rule = h; from = from; to = to }) (slots_by resource from to rules) refl rest
  go false rest = rest

-- ---- plans
record IsFrom (copy : SheetId) (n : ℕ) (x : Slot) : Type 0 where
  at : ℕ
  from : x.from ≡ kept copy at
  le : n ≤ at

abbrev point-number : Spot → ℕ
point-number (kept c i) = i
point-number (own n) = n

abbrev point-copy : SheetId → Spot → SheetId
point-copy d (kept c i) = c
point-copy d (own n) = d

abbrev is-own : Spot → Bool
is-own (kept c i) = false
is-own (own n) = true

from-of : (machine : Machine) (resource : ℕ) (copy : SheetId) (n : ℕ) (acts : List ActId) → All (IsFrom copy n) (slots_from machine resource copy n acts)
from-of machine resource copy n [] = All-nil (IsFrom copy n)
from-of machine resource copy n (act ∷ acts) =
    All-append (IsFrom copy n) (slots_by resource (kept copy n) (kept copy (suc n)) (holds_of_act (action_at machine act.0))) (slots_from machine resource copy (suc n) acts)
    (All-from_contains (IsFrom copy n) (slots_by resource (kept copy n) (kept copy (suc n)) (holds_of_act (action_at machine act.0))) (λ x in'. record { at = n; from = All-contains (StartsAt (kept copy n)) (slots_by resource (kept copy n) (kept copy (suc n)) (holds_of_act (action_at machine act.0))) x (by-starts resource (kept copy n) (kept copy (suc n)) (holds_of_act (action_at machine act.0))) in'; le = omega arith }))
    (All-from_contains (IsFrom copy n) (slots_from machine resource copy (suc n) acts) (λ x in'. let f = All-contains (IsFrom copy (suc n)) (slots_from machine resource copy (suc n) acts) x (from-of machine resource copy (suc n) acts) in' in record { at = f.at; from = f.from; le = let l = f.le in omega arith }))

from-apart : (machine : Machine) (resource : ℕ) (copy : SheetId) (n : ℕ) (acts : List ActId) → AllPairs Apart (slots_from machine resource copy n acts)
from-apart machine resource copy n [] = AllPairs-nil Apart
from-apart machine resource copy n (act ∷ acts) =
    AllPairs-append Apart first later (by-apart resource (kept copy n) (kept copy (suc n)) (holds_of_act (action_at machine act.0)) (rules-differ machine act.0)) (from-apart machine resource copy (suc n) acts)
    (All-from_contains (λ x. All (Apart x) later) first (λ x in-x. All-from_contains (Apart x) later (λ y in-y same.
    let a = All-contains (StartsAt (kept copy n)) first x (by-starts resource (kept copy n) (kept copy (suc n)) (holds_of_act (action_at machine act.0))) in-x in
    let f = All-contains (IsFrom copy (suc n)) later y (from-of machine resource copy (suc n) acts) in-y in
    let e : n ≡ f.at = ap point-number (sym a ∙ same ∙ f.from) in
    let l = f.le in
    absurd (omega (arith, e, l))))) where
      first : List Slot
      first = slots_by resource (kept copy n) (kept copy (suc n)) (holds_of_act (action_at machine act.0))

      later : List Slot
      later = slots_from machine resource copy (suc n) acts

record IsOf (plans : List Plan) (x : Slot) : Type 0 where
  p : Plan
  in' : Contains plans p
  at : ℕ
  from : x.from ≡ kept p.sheet at

plans-of : (machine : Machine) (resource : ℕ) (plans : List Plan) → All (IsOf plans) (slots machine resource plans)
plans-of machine resource [] = All-nil (IsOf [])
plans-of machine resource (p ∷ plans) =
    All-append (IsOf (p ∷ plans)) (slots_of machine resource p) (slots machine resource plans)
    (All-from_contains (IsOf (p ∷ plans)) (slots_of machine resource p) (λ x in'. let f = All-contains (IsFrom p.sheet 0) (slots_of machine resource p) x (from-of machine resource p.sheet 0 p.acts) in' in record { p = p; in' = Contains-here p plans; at = f.at; from = f.from }))
    (All-from_contains (IsOf (p ∷ plans)) (slots machine resource plans) (λ x in'. let f = All-contains (IsOf plans) (slots machine resource plans) x (plans-of machine resource plans) in' in record { p = f.p; in' = Contains-later p plans f.p f.in'; at = f.at; from = f.from }))

slots-apart : (machine : Machine) (resource : ℕ) (plans : List Plan) → AllPairs IsEarlier plans → AllPairs Apart (slots machine resource plans)
slots-apart machine resource [] pairs = AllPairs-nil Apart
slots-apart machine resource (p ∷ plans) pairs =
    AllPairs-append Apart (slots_of machine resource p) (slots machine resource plans) (from-apart machine resource p.sheet 0 p.acts) (slots-apart machine resource plans (AllPairs-tail IsEarlier p plans pairs))
    (All-from_contains (λ x. All (Apart x) (slots machine resource plans)) (slots_of machine resource p) (λ x in-x. All-from_contains (Apart x) (slots machine resource plans) (λ y in-y same.
    let f = All-contains (IsFrom p.sheet 0) (slots_of machine resource p) x (from-of machine resource p.sheet 0 p.acts) in-x in
    let g = All-contains (IsOf plans) (slots machine resource plans) y (plans-of machine resource plans) in-y in
    let e : p.sheet ≡ g.p.sheet = ap (point-copy p.sheet) (sym f.from ∙ same ∙ g.from) in
    let before : is_before p.sheet g.p.sheet ≡ true = All-contains (IsEarlier p) plans g.p (AllPairs-head IsEarlier p plans pairs) g.in' in
    let no : is_same_copy p.sheet g.p.sheet ≡ false = before-not_same p.sheet g.p.sheet before in
    let yes : is_same_copy p.sheet g.p.sheet ≡ true = subst (λ c. is_same_copy p.sheet c ≡ true) e (same_copy-refl p.sheet) in
    absurd cc)))

-- ---- choices
abbrev Below : ℕ → Slot → Type 0
Below k x = (is-own x.from ≡ false) ⊎ (point-number x.from < k)

none-put : (resource : ℕ) (from to : Spot) (h : HoldRule) (rules : List HoldRule) (ps : List ℕ) (order : List Slot) → h.resource.0 ≡ resource → All (λ k. h.resource.0 ≢ k.resource.0) rules → put_places resource from to rules ps order ≡ order
none-put resource from to h [] ps order e all = refl
none-put resource from to h (k ∷ rules) [] order e all = refl
none-put resource from to h (k ∷ rules) (p ∷ ps) order e all = go (k.resource.0 == resource) refl (none-put resource from to h rules ps order e (All-tail (λ k. h.resource.0 ≢ k.resource.0) k rules all)) where
  go : (b : Bool) → (k.resource.0 == resource) ≡ b → put_places resource from to rules ps order ≡ order → put_places resource from to rules ps (cond b (insert order p (record { rule = k; from = from; to = to })) order) ≡ order
  go true u rest = absurd (All-head (λ k. h.resource.0 ≢ k.resource.0) k rules all (e ∙ sym (eqb-true k.resource.0 resource u)))
  go false u rest = rest

put-apart-own : (resource : ℕ) (from to : Spot) (rules : List HoldRule) (ps : List ℕ) (order : List Slot) → OnOthers rules → AllPairs Apart order → All (Elsewhere from) order → AllPairs Apart (put_places resource from to rules ps order)
put-apart-own resource from to [] ps order others pairs all = pairs
put-apart-own resource from to (h ∷ rules) [] order others pairs all = pairs
put-apart-own resource from to (h ∷ rules) (p ∷ ps) order others pairs all = go (h.resource.0 == resource) refl (put-apart-own resource from to rules ps order (AllPairs-tail (λ h k. h.resource.0 ≢ k.resource.0) h rules others) pairs all) where
  slot : Slot
  slot = record { rule = h; from = from; to = to }

  go : (b : Bool) → (h.resource.0 == resource) ≡ b → AllPairs Apart (put_places resource from to rules ps order) → AllPairs Apart (put_places resource from to rules ps (cond b (insert order p (record { rule = h; from = from; to = to })) order))
  go true u rest =
      let none = none-put resource from to h rules ps (insert order p slot) (eqb-true h.resource.0 resource u) (AllPairs-head (λ h k. h.resource.0 ≢ k.resource.0) h rules others) in
      subst (AllPairs Apart) (sym none) (insert-apart order p slot pairs (All-from_contains (Apart slot) order (λ y in' e. All-contains (Elsewhere from) order y all in' (sym e))))
  go false u rest = rest

put-below : (P : Slot → Type 0) (resource : ℕ) (from to : Spot) (rules : List HoldRule) (ps : List ℕ) (order : List Slot) → ((h : HoldRule) → P (record { rule = h; from = from; to = to })) → All P order → All P (put_places resource from to rules ps order)
put-below P resource from to [] ps order here all = all
put-below P resource from to (h ∷ rules) [] order here all = all
put-below P resource from to (h ∷ rules) (p ∷ ps) order here all = put-below P resource from to rules ps (cond (h.resource.0 == resource) (insert order p (record { rule = h; from = from; to = to })) order) here (go (h.resource.0 == resource)) where
  go : (b : Bool) → All P (cond b (insert order p (record { rule = h; from = from; to = to })) order)
  go true = All-insert P order p (record { rule = h; from = from; to = to }) all (here h)
  go false = all

weaker-below : (k : ℕ) (x : Slot) → Below k x → Below (suc k) x
weaker-below k x (inl kept-one) = inl kept-one
weaker-below k x (inr less) = inr (omega (arith, less))

placed-below : (machine : Machine) (resource : ℕ) (order : List Slot) (choices : List Choice) → All (λ x. is-own x.from ≡ false) order → All (Below (suc (length choices))) (placed machine resource order choices)
placed-below machine resource order [] all = All-from_contains (Below 1) order (λ x in'. inl (All-contains (λ x. is-own x.from ≡ false) order x all in'))
placed-below machine resource order (c ∷ cs) all =
    let rest = placed-below machine resource order cs all in
    put-below (Below (suc (suc (length cs)))) resource (own (suc (length cs))) (own (length cs)) (holds_of_act (action_at machine c.act.0)) c.places (placed machine resource order cs) (λ h. inr (omega arith))
    (All-from_contains (Below (suc (suc (length cs)))) (placed machine resource order cs) (λ x in'. weaker-below (suc (length cs)) x (All-contains (Below (suc (length cs))) (placed machine resource order cs) x rest in')))

placed-apart : (machine : Machine) (resource : ℕ) (order : List Slot) (choices : List Choice) → All (λ x. is-own x.from ≡ false) order → AllPairs Apart order → AllPairs Apart (placed machine resource order choices)
placed-apart machine resource order [] all pairs = pairs
placed-apart machine resource order (c ∷ cs) all pairs =
    put-apart-own resource (own (suc (length cs))) (own (length cs)) (holds_of_act (action_at machine c.act.0)) c.places (placed machine resource order cs) (rules-differ machine c.act.0) (placed-apart machine resource order cs all pairs)
    (All-from_contains (Elsewhere (own (suc (length cs)))) (placed machine resource order cs) (λ x in' e. elim (All-contains (Below (suc (length cs))) (placed machine resource order cs) x (placed-below machine resource order cs all) in') [
      | inl kept-one ↦ let yes : is-own x.from ≡ true = ap is-own e in absurd cc
      | inr less ↦ let n : point-number x.from ≡ suc (length cs) = ap point-number e in absurd (omega (arith, less, n))
    ]))

-- the orders
pub starts-apart : (machine : Machine) (plans : List Plan) (x : Suffix) (resource : ℕ) → AllPairs IsEarlier plans → AllPairs Apart (order_in machine plans x resource)
starts-apart machine plans x resource in_order =
    placed-apart machine resource (slot_order machine plans resource) x.choices
    (sort-all (λ y. is-own y.from ≡ false) (ticks_of plans) (slots machine resource plans) (All-from_contains (λ y. is-own y.from ≡ false) (slots machine resource plans) (λ y in'. ap is-own ((All-contains (IsOf plans) (slots machine resource plans) y (plans-of machine resource plans) in').from))))
    (sort-apart (ticks_of plans) (slots machine resource plans) (slots-apart machine resource plans in_order))
