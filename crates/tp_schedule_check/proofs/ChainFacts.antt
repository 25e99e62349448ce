-- The steps between holds that touch are those of the gaps of chains that a schedule's ticks leave no room.
use Rattle.std.proofs.Common.{◌≡◌, inl, inr, ℕ, zero, suc, ◌+◌, ◌<◌, ◌≤◌, ◌==◌, Bool, true, false, cond, List, [], ◌∷◌, length, map, filter, drop, get_or, slice_get, refl, sym, subst, ◌∙◌, arith, eqb-true, All, AllPairs, Contains, Some}
use Rattle.std.specs.Prelude.{ℤ, pos, ◌+ℤ◌}
use Rattle.std.specs.Cmp.{signed_Decides}
use Rattle.std.specs.Ordering.{int_eq}
use Rattle.std.proofs.lemmas.Bool.{and_from, and_parts, cases_lt}
use Rattle.std.proofs.lemmas.Bool.Decides.{nat_tests}
use Rattle.std.proofs.lemmas.Int.{ints}
use Rattle.std.proofs.lemmas.List.Elements.{All-append, All-cons, All-head, All-nil, All-tail, All-weaker, Contains-append_left, Contains-append_right}
use Rattle.tp_machine.specs.Modes.{gap_at, gap_between}
use Rattle.tp_machine.specs.ModuleUse.{tick_of}
use Rattle.tp_machine.specs.declared.machine.Machine.{Machine}
use Rattle.tp_machine.specs.declared.parts.Anchor.{Anchor}
use Rattle.tp_machine.specs.declared.parts.Anchor.TheVariants.{Start, End as AtEnd}
use Rattle.tp_schedule.specs.Spots.{Slot, Spot, Ticks}
use Rattle.tp_schedule.specs.Spots.Spot.{kept}
use Rattle.tp_schedule.proofs.Membership.{Contains-cons_cases, Contains-here, Contains-later}
use Rattle.tp_schedule.proofs.Pairs.{AllPairs-head, AllPairs-tail}
use Rattle.tp_constraints.specs.Gaps.{Gap, all_chains, anchor_spot, chain_gaps, slot_gap}
use Rattle.tp_constraints.specs.Supports.{IsTight}
use Rattle.tp_schedule_check.specs.Early.{AreTightSteps, IsStepOf, IsTightStep, anchor_point, chain_steps, hold_steps, step_to, touches}
use Rattle.tp_schedule_check.specs.Holds.{IsAhead, finish_of, free_at, slot_of}
use Rattle.tp_schedule_check.specs.declared.held.NumberedHold.{NumberedHold}
use Rattle.tp_schedule_check.specs.declared.marks.MarkStep.{MarkStep}
use Rattle.tp_schedule_check.proofs.HeldFacts.{IsHeldAt, is_on, row}
use Rattle.tp_schedule_check.proofs.StepFacts.{IsNumbered, in-append}

module _ (table : List Spot) (t : Ticks) (machine : Machine) where
  anchored : (a : Anchor) (h : NumberedHold) → IsNumbered table h → slice_get table (anchor_point a h) ≡ Some (anchor_spot a (kept h.hold.sheet h.at) (kept h.hold.sheet h.hold.act))
  anchored Start h is = is.0
  anchored AtEnd h is = is.1

  spot-tick : (a : Anchor) (from to : Spot) → tick_of a (t from) (t to) ≡ t (anchor_spot a from to)
  spot-tick Start from to = refl
  spot-tick AtEnd from to = refl

  -- the gap between two holds has no room exactly where they touch
  touch-tight : (g : ℕ) (x y : NumberedHold) → IsHeldAt t x → IsHeldAt t y → finish_of x +ℤ pos (gap_between g x.rule y.rule) ≡ y.begin → IsTight t (slot_gap g (slot_of x) (slot_of y))
  touch-tight g x y at-x at-y e =
      let a = spot-tick x.rule.end (kept x.hold.sheet x.at) (kept x.hold.sheet x.hold.act) in
      let b = spot-tick y.rule.begin (kept y.hold.sheet y.at) (kept y.hold.sheet y.hold.act) in
      let f = at-x.1 in
      let h = at-y.0 in
      omega (arith, ints, a, b, f, h, e)

  tight-touch : (g : ℕ) (x y : NumberedHold) → IsHeldAt t x → IsHeldAt t y → IsTight t (slot_gap g (slot_of x) (slot_of y)) → finish_of x +ℤ pos (gap_between g x.rule y.rule) ≡ y.begin
  tight-touch g x y at-x at-y e =
      let a = spot-tick x.rule.end (kept x.hold.sheet x.at) (kept x.hold.sheet x.hold.act) in
      let b = spot-tick y.rule.begin (kept y.hold.sheet y.at) (kept y.hold.sheet y.hold.act) in
      let f = at-x.1 in
      let h = at-y.0 in
      omega (arith, ints, a, b, f, h, e)

  same-int : (a b : ℤ) → int_eq a b ≡ true → a ≡ b
  same-int a b e = (signed_Decides a b).0 e

  touch-says : (x y : NumberedHold) → touches machine x y ≡ true → (x.rule.resource.0 ≡ y.rule.resource.0) × (free_at machine x y ≡ y.begin)
  touch-says x y e =
      let two = and_parts (x.rule.resource.0 == y.rule.resource.0) (int_eq (free_at machine x y) y.begin) e in
      (eqb-true x.rule.resource.0 y.rule.resource.0 two.0, same-int (free_at machine x y) y.begin two.1)

  touch-from : (x y : NumberedHold) → x.rule.resource.0 ≡ y.rule.resource.0 → free_at machine x y ≡ y.begin → touches machine x y ≡ true
  touch-from x y same e =
      and_from (x.rule.resource.0 == y.rule.resource.0) (int_eq (free_at machine x y) y.begin)
      (grind (arith, nat_tests)) (itself (free_at machine x y) y.begin e) where
        itself : (a b : ℤ) → a ≡ b → int_eq a b ≡ true
        itself a b f = (signed_Decides a b).1 f

  -- a gap of a chain is one of a longer chain
  chain-more : (g : ℕ) (z : Slot) (xs : List Slot) (x : Gap) → Contains (chain_gaps g xs) x → Contains (chain_gaps g (z ∷ xs)) x
  chain-more g z [] x c = absurd (omega (arith, c.1))
  chain-more g z (y ∷ xs) x c = Contains-later (slot_gap g z y) (chain_gaps g (y ∷ xs)) x c

  row-more : (r : ℕ) (z : NumberedHold) (hs : List NumberedHold) (x : Gap) → Contains (chain_gaps (gap_at machine r) (row r hs)) x → Contains (chain_gaps (gap_at machine r) (row r (z ∷ hs))) x
  row-more r z hs x c = go (is_on r z) where
    go : (b : Bool) → Contains (chain_gaps (gap_at machine r) (map slot_of (cond b (z ∷ filter (is_on r) hs) (filter (is_on r) hs)))) x
    go true = chain-more (gap_at machine r) (slot_of z) (row r hs) x c
    go false = c

  -- the gap of a chain of a resource, of which the step is
  abbrev IsChained : (ℕ → List Slot) → MarkStep → Type 0
  IsChained orders s = (r : ℕ) × (g : Gap) × Contains (chain_gaps (gap_at machine r) (orders r)) g × IsTight t g × IsStepOf table g s

  row-two : (r : ℕ) (x y : NumberedHold) (hs : List NumberedHold) → is_on r x ≡ true → is_on r y ≡ true → Contains (chain_gaps (gap_at machine r) (row r (x ∷ y ∷ hs))) (slot_gap (gap_at machine r) (slot_of x) (slot_of y))
  row-two r x y hs on-x on-y = go (is_on r x) (is_on r y) on-x on-y where
    go : (a b : Bool) → a ≡ true → b ≡ true
        → Contains (chain_gaps (gap_at machine r) (map slot_of (cond a (x ∷ cond b (y ∷ filter (is_on r) hs) (filter (is_on r) hs)) (cond b (y ∷ filter (is_on r) hs) (filter (is_on r) hs))))) (slot_gap (gap_at machine r) (slot_of x) (slot_of y))
    go true true e f = Contains-here (slot_gap (gap_at machine r) (slot_of x) (slot_of y)) (chain_gaps (gap_at machine r) (slot_of y ∷ row r hs))
    go true false e f = absurd cc
    go false b e f = absurd cc

  chains-sound : (hs : List NumberedHold) → All (IsHeldAt t) hs → All (IsNumbered table) hs → All (IsChained (λ r. row r hs)) (chain_steps machine hs)
  chains-sound [] at numbered = All-nil (IsChained (λ r. []))
  chains-sound (x ∷ []) at numbered = All-nil (IsChained (λ r. row r (x ∷ [])))
  chains-sound (x ∷ y ∷ hs) at numbered =
      let at-y = All-tail (IsHeldAt t) x (y ∷ hs) at in
      let numbered-y = All-tail (IsNumbered table) x (y ∷ hs) numbered in
      All-append (IsChained (λ r. row r (x ∷ y ∷ hs))) (hold_steps machine x y) (chain_steps machine (y ∷ hs))
      (here (touches machine x y) refl (All-head (IsHeldAt t) x (y ∷ hs) at) (All-head (IsHeldAt t) y hs at-y) (All-head (IsNumbered table) x (y ∷ hs) numbered) (All-head (IsNumbered table) y hs numbered-y))
      (All-weaker (IsChained (λ r. row r (y ∷ hs))) (IsChained (λ r. row r (x ∷ y ∷ hs))) (λ s c. (c.0, c.1, row-more c.0 x (y ∷ hs) c.1 c.2, c.3, c.4)) (chain_steps machine (y ∷ hs)) (chains-sound (y ∷ hs) at-y numbered-y))
    where
      itself : (n : ℕ) → (n == n) ≡ true
      itself n = grind (arith, nat_tests)

      here : (b : Bool) → touches machine x y ≡ b → IsHeldAt t x → IsHeldAt t y → IsNumbered table x → IsNumbered table y
          → All (IsChained (λ r. row r (x ∷ y ∷ hs))) (cond b (step_to (anchor_point x.rule.end x) (anchor_point y.rule.begin y) ∷ []) [])
      here false e at-x at-y n-x n-y = All-nil (IsChained (λ r. row r (x ∷ y ∷ hs)))
      here true e at-x at-y n-x n-y =
          let says = touch-says x y e in
          let r = x.rule.resource.0 in
          All-cons (IsChained (λ r. row r (x ∷ y ∷ hs))) (step_to (anchor_point x.rule.end x) (anchor_point y.rule.begin y)) []
          (r, slot_gap (gap_at machine r) (slot_of x) (slot_of y), row-two r x y hs (itself r) (subst (λ n. (n == r) ≡ true) says.0 (itself r)), touch-tight (gap_at machine r) x y at-x at-y says.1, (anchored x.rule.end x n-x, anchored y.rule.begin y n-y))
          (All-nil (IsChained (λ r. row r (x ∷ y ∷ hs))))

  -- behind a hold of a later resource there is none of this one
  row-none : (r : ℕ) (hs : List NumberedHold) → All (λ h. r < h.rule.resource.0) hs → row r hs ≡ []
  row-none r [] all = refl
  row-none r (h ∷ hs) all = go (is_on r h) refl (row-none r hs (All-tail (λ h. r < h.rule.resource.0) h hs all)) where
    go : (b : Bool) → is_on r h ≡ b → row r hs ≡ [] → map slot_of (cond b (h ∷ filter (is_on r) hs) (filter (is_on r) hs)) ≡ []
    go true e rest = let same : h.rule.resource.0 ≡ r = eqb-true h.rule.resource.0 r e in let less : r < h.rule.resource.0 = All-head (λ h. r < h.rule.resource.0) h hs all in absurd (omega arith)
    go false e rest = rest

  behind : (r : ℕ) (x y : NumberedHold) → r ≡ x.rule.resource.0 → is_on r y ≡ false → IsAhead x y → r < y.rule.resource.0
  behind r x y same off (inl less) = omega arith
  behind r x y same off (inr le) = let one = le.0 in absurd (differ r y.rule.resource.0 off (omega arith)) where
    differ : (m n : ℕ) → (n == m) ≡ false → n ≡ m → ⊥
    differ m n e f = absurd (grind (arith, nat_tests))

  later : (r : ℕ) (x y : NumberedHold) → r < x.rule.resource.0 → IsAhead x y → r < y.rule.resource.0
  later r x y less (inl more) = omega arith
  later r x y less (inr le) = let one = le.0 in omega arith

  -- one hold more in front
  module _ (x y : NumberedHold) (hs : List NumberedHold) (at-x : IsHeldAt t x) (at-y : IsHeldAt t y) (numbered-x : IsNumbered table x) (numbered-y : IsNumbered table y) (next : IsAhead x y) (ahead-y : All (IsAhead y) hs) (r : ℕ) (g : Gap) (tight : IsTight t g)
      (old : Contains (chain_gaps (gap_at machine r) (row r (y ∷ hs))) g → (s : MarkStep) × Contains (chain_steps machine (y ∷ hs)) s × IsStepOf table g s) where
    further : Contains (chain_gaps (gap_at machine r) (row r (y ∷ hs))) g → (s : MarkStep) × Contains (chain_steps machine (x ∷ y ∷ hs)) s × IsStepOf table g s
    further c = let s = old c in (s.0, Contains-append_right (hold_steps machine x y) (chain_steps machine (y ∷ hs)) s.0 s.1, s.2)

    first : is_on r x ≡ true → is_on r y ≡ true → slot_gap (gap_at machine r) (slot_of x) (slot_of y) ≡ g → (s : MarkStep) × Contains (chain_steps machine (x ∷ y ∷ hs)) s × IsStepOf table g s
    first on-x on-y same =
        let a : x.rule.resource.0 ≡ r = eqb-true x.rule.resource.0 r on-x in
        let b : y.rule.resource.0 ≡ r = eqb-true y.rule.resource.0 r on-y in
        let step = step_to (anchor_point x.rule.end x) (anchor_point y.rule.begin y) in
        let meets : finish_of x +ℤ pos (gap_between (gap_at machine r) x.rule y.rule) ≡ y.begin = tight-touch (gap_at machine r) x y at-x at-y (subst (IsTight t) (sym same) tight) in
        let touch : touches machine x y ≡ true = touch-from x y (a ∙ sym b) (subst (λ n. finish_of x +ℤ pos (gap_between (gap_at machine n) x.rule y.rule) ≡ y.begin) (sym a) meets) in (
          step,
          Contains-append_left (hold_steps machine x y) (chain_steps machine (y ∷ hs)) step (subst (λ c. Contains (cond c (step ∷ []) []) step) (sym touch) (Contains-here step [])),
          subst (λ z. IsStepOf table z step) same (anchored x.rule.end x numbered-x, anchored y.rule.begin y numbered-y),
        )

    nothing : is_on r x ≡ true → is_on r y ≡ false → row r hs ≡ []
    nothing on-x off-y =
        let a : x.rule.resource.0 ≡ r = eqb-true x.rule.resource.0 r on-x in
        let less = behind r x y (sym a) off-y next in
        row-none r hs (λ k d within. later r y (get_or hs k d) less (ahead-y k d within))

    chain-first : (a : Bool) → is_on r x ≡ a → (b : Bool) → is_on r y ≡ b
        → Contains (chain_gaps (gap_at machine r) (map slot_of (cond a (x ∷ cond b (y ∷ filter (is_on r) hs) (filter (is_on r) hs)) (cond b (y ∷ filter (is_on r) hs) (filter (is_on r) hs))))) g
        → (s : MarkStep) × Contains (chain_steps machine (x ∷ y ∷ hs)) s × IsStepOf table g s
    chain-first false e b f c = further (subst (λ z. Contains (chain_gaps (gap_at machine r) (map slot_of (cond z (y ∷ filter (is_on r) hs) (filter (is_on r) hs)))) g) (sym f) c)
    chain-first true e true f c = elim (Contains-cons_cases (slot_gap (gap_at machine r) (slot_of x) (slot_of y)) (chain_gaps (gap_at machine r) (slot_of y ∷ row r hs)) g c) [
      | inl same ↦ first e f same
      | inr more ↦ further (subst (λ z. Contains (chain_gaps (gap_at machine r) (map slot_of (cond z (y ∷ filter (is_on r) hs) (filter (is_on r) hs)))) g) (sym f) more)
    ]
    chain-first true e false f c = absurd (alone (row r hs) (nothing e f) c) where
      alone : (xs : List Slot) → xs ≡ [] → Contains (chain_gaps (gap_at machine r) (slot_of x ∷ xs)) g → ⊥
      alone [] empty d = omega (arith, d.1)
      alone (z ∷ xs) empty d = absurd cc

  chains-all : (hs : List NumberedHold) → All (IsHeldAt t) hs → All (IsNumbered table) hs → AllPairs IsAhead hs → (r : ℕ) (g : Gap) → Contains (chain_gaps (gap_at machine r) (row r hs)) g → IsTight t g
      → (s : MarkStep) × Contains (chain_steps machine hs) s × IsStepOf table g s
  chains-all [] at numbered ahead r g in' tight = absurd (omega (arith, in'.1))
  chains-all (x ∷ []) at numbered ahead r g in' tight = absurd (single (is_on r x) in') where
    single : (b : Bool) → Contains (chain_gaps (gap_at machine r) (map slot_of (cond b (x ∷ []) []))) g → ⊥
    single true c = omega (arith, c.1)
    single false c = omega (arith, c.1)
  chains-all (x ∷ y ∷ hs) at numbered ahead r g in' tight =
      let at-y = All-tail (IsHeldAt t) x (y ∷ hs) at in
      let numbered-y = All-tail (IsNumbered table) x (y ∷ hs) numbered in
      let ahead-y = AllPairs-tail IsAhead x (y ∷ hs) ahead in
      chain-first x y hs (All-head (IsHeldAt t) x (y ∷ hs) at) (All-head (IsHeldAt t) y hs at-y) (All-head (IsNumbered table) x (y ∷ hs) numbered) (All-head (IsNumbered table) y hs numbered-y)
      (All-head (IsAhead x) y hs (AllPairs-head IsAhead x (y ∷ hs) ahead)) (AllPairs-head IsAhead y hs ahead-y) r g tight
      (λ c. chains-all (y ∷ hs) at-y numbered-y ahead-y r g c tight) (is_on r x) refl (is_on r y) refl in'

  -- of all resources
  chains-in : (orders : ℕ → List Slot) (n r : ℕ) (g : Gap) → r < n → Contains (chain_gaps (gap_at machine r) (orders r)) g → Contains (all_chains machine orders n) g
  chains-in orders zero r g below c = absurd (omega arith)
  chains-in orders (suc n) r g below c = elim (cases_lt r n) [
    | inl less ↦ Contains-append_right (chain_gaps (gap_at machine n) (orders n)) (all_chains machine orders n) g (chains-in orders n r g less c)
    | inr more ↦ let same : r ≡ n = omega arith in Contains-append_left (chain_gaps (gap_at machine n) (orders n)) (all_chains machine orders n) g (subst (λ k. Contains (chain_gaps (gap_at machine k) (orders k)) g) same c)
  ]

  chains-of : (orders : ℕ → List Slot) (n : ℕ) (g : Gap) → Contains (all_chains machine orders n) g → (r : ℕ) × Contains (chain_gaps (gap_at machine r) (orders r)) g
  chains-of orders zero g c = absurd (omega (arith, c.1))
  chains-of orders (suc n) g c = elim (in-append (chain_gaps (gap_at machine n) (orders n)) (all_chains machine orders n) g c) [ inl a ↦ (n, a) | inr b ↦ chains-of orders n g b ]

  pub chains-are : (orders : ℕ → List Slot) (n : ℕ) (hs : List NumberedHold) → ((r : ℕ) → orders r ≡ row r hs) → ((r : ℕ) (s : Slot) → Contains (orders r) s → r < n) → All (IsHeldAt t) hs → All (IsNumbered table) hs → AllPairs IsAhead hs
      → AreTightSteps table t (all_chains machine orders n) (chain_steps machine hs)
  chains-are orders n hs rows known at numbered ahead = record {
    sound = All-weaker (IsChained (λ r. row r hs)) (IsTightStep table t (all_chains machine orders n)) (λ s c.
        let there : Contains (chain_gaps (gap_at machine c.0) (orders c.0)) c.1 = subst (λ xs. Contains (chain_gaps (gap_at machine c.0) xs) c.1) (sym (rows c.0)) c.2 in
        record { by = c.1; among = chains-in orders n c.0 c.1 (some (orders c.0) c.0 c.1 (λ z. known c.0 z) there) there; tight = c.3; of = c.4 })
        (chain_steps machine hs) (chains-sound hs at numbered);
    all = λ g in' tight. let c = chains-of orders n g in' in chains-all hs at numbered ahead c.0 g (subst (λ xs. Contains (chain_gaps (gap_at machine c.0) xs) g) (rows c.0) c.1) tight;
  } where
    some : (xs : List Slot) (r : ℕ) (g : Gap) → ((z : Slot) → Contains xs z → r < n) → Contains (chain_gaps (gap_at machine r) xs) g → r < n
    some [] r g each c = absurd (omega (arith, c.1))
    some (z ∷ xs) r g each c = each z (Contains-here z xs)

-- no steps are left of one hold
pub chain-end : (machine : Machine) (n : ℕ) (holds : List NumberedHold) → length holds ≤ n + 1 → chain_steps machine (drop n holds) ≡ []
chain-end machine zero [] le = refl
chain-end machine zero (x ∷ []) le = refl
chain-end machine zero (x ∷ y ∷ holds) le = absurd (omega arith)
chain-end machine (suc n) [] le = refl
chain-end machine (suc n) (x ∷ holds) le = chain-end machine n holds (omega arith)
