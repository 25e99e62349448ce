-- Fixed points, floors and horizon are kept exactly where the ticks are within their bounds.
use Rattle.std.proofs.Common.{◌≡◌, ℕ, ◌+◌, ◌≤◌, ◌<◌, Bool, true, false, cond, not, ◌&&◌, List, length, refl, arith, Contains, subst}
use Rattle.std.specs.Prelude.{nat_le, nat_lt}
use Rattle.std.proofs.lemmas.Bool.Decides.{nat_tests}
use Rattle.tp_machine.specs.declared.machine.Machine.{Machine}
use Rattle.tp_schedule.specs.Plans.{plan_of, is_fixed, point}
use Rattle.tp_schedule.specs.Answers.{KeepsFloors}
use Rattle.tp_schedule.specs.declared.parts.Plan.{Plan}
use Rattle.tp_schedule.specs.Spots.{Ticks}
use Rattle.tp_schedule.specs.Spots.Spot.{kept, own}
use Rattle.tp_schedule.specs.Times.{KeepsTimes, at}
use Rattle.tp_constraints.specs.Gaps.{IsPoint, low_in, cap_in, low_at, cap_at, Within, low_of, cap_of}
use Rattle.tp_schedule.proofs.CopyFacts.{InOrder, plan_of-itself}

-- tests of numbers, and what they say
le-from : (a b : ℕ) → nat_le a b ≡ true → a ≤ b
le-from a b e = grind (arith, nat_tests)

lt-from : (a b : ℕ) → nat_lt a b ≡ true → a < b
lt-from a b e = grind (arith, nat_tests)

le-to : (a b : ℕ) → a ≤ b → nat_le a b ≡ true
le-to a b e = grind (arith, nat_tests)

lt-to : (a b : ℕ) → a < b → nat_lt a b ≡ true
lt-to a b e = grind (arith, nat_tests)

-- the ticks of the plans' points are within their lows and caps
abbrev pub PlansWithin : Machine → ℕ → (Plan → Bool) → List Plan → Ticks → Type 0
PlansWithin machine now exempt plans t = (p : Plan) → Contains plans p → (i : ℕ) → i ≤ length p.acts → (low_of (now + machine.lead) exempt p i ≤ at t p i) × (at t p i ≤ cap_of (now + machine.window) p i)

module _ (machine : Machine) (now : ℕ) (exempt : Plan → Bool) (plans : List Plan) (t : Ticks) where
  pub within-from_times : KeepsTimes machine now exempt plans t → PlansWithin machine now exempt plans t
  within-from_times keeps p in' i le = go (is_fixed p i) refl where
    free : (a b d : Bool) → nat_le p.released i ≡ a → nat_lt i (length p.acts) ≡ b → exempt p ≡ d → cond ((a && b) && not d) (now + machine.lead + 1) 0 ≤ at t p i
    free true true false x y z = let below : now + machine.lead < at t p i = keeps.floors p in' z i (le-from p.released i x) (lt-from i (length p.acts) y) in omega arith
    free true true true x y z = omega arith
    free true false d x y z = omega arith
    free false b d x y z = omega arith

    go : (b : Bool) → is_fixed p i ≡ b → (low_of (now + machine.lead) exempt p i ≤ at t p i) × (at t p i ≤ cap_of (now + machine.window) p i)
    go true e = let v = keeps.fixed p in' i e le in rw e (omega (arith, v), omega (arith, v))
    go false e = rw e (free (nat_le p.released i) (nat_lt i (length p.acts)) (exempt p) refl refl refl, keeps.horizon p in' i le e)

  module _ (floors : KeepsFloors machine now exempt plans) (within : PlansWithin machine now exempt plans t) where
    pub fixed-at : (p : Plan) → Contains plans p → (i : ℕ) → is_fixed p i ≡ true → i ≤ length p.acts → at t p i ≡ point p i
    fixed-at p in' i e le = let w = rw e at (within p in' i le) in omega (arith, w.0, w.1)

    pub floors-at : (p : Plan) → Contains plans p → exempt p ≡ false → (i : ℕ) → p.released ≤ i → i < length p.acts → now + machine.lead < at t p i
    floors-at p in' free i from to = go (is_fixed p i) refl where
      go : (b : Bool) → is_fixed p i ≡ b → now + machine.lead < at t p i
      go true e = let v = fixed-at p in' i e (omega arith) in let f = floors p in' free i from to in omega (arith, v, f)
      go false e =
          let a = le-to p.released i from in
          let b = lt-to i (length p.acts) to in
          let w = rw (e, a, b, free) at (within p in' i (omega arith)) in
          omega (arith, w.0)

    pub horizon-at : (p : Plan) → Contains plans p → (i : ℕ) → i ≤ length p.acts → is_fixed p i ≡ false → at t p i ≤ now + machine.window
    horizon-at p in' i le e = let w = rw e at (within p in' i le) in w.1

-- bounds of all points
pub within-all : (plans : List Plan) (count floor horizon : ℕ) (exempt : Plan → Bool) (own_low : ℕ → ℕ) (t : Ticks) → InOrder plans
    → ((p : Plan) → Contains plans p → (i : ℕ) → i ≤ length p.acts → (low_of floor exempt p i ≤ at t p i) × (at t p i ≤ cap_of horizon p i))
    → ((n : ℕ) → n < count → (own_low n ≤ t (own n)) × (t (own n) ≤ horizon))
    → Within (IsPoint plans count) (low_at floor exempt plans own_low) (cap_at horizon plans) t
within-all plans count floor horizon exempt own_low t in_order each own_each (kept copy i) (p, in', e, le) =
    subst (λ c. (low_in floor exempt (plan_of c plans) i ≤ t (kept c i)) × (t (kept c i) ≤ cap_in horizon (plan_of c plans) i)) e (rw (plan_of-itself plans p in_order in') (each p in' i le))
within-all plans count floor horizon exempt own_low t in_order each own_each (own n) below = own_each n below

pub within-each : (plans : List Plan) (count floor horizon : ℕ) (exempt : Plan → Bool) (own_low : ℕ → ℕ) (t : Ticks) → InOrder plans
    → Within (IsPoint plans count) (low_at floor exempt plans own_low) (cap_at horizon plans) t
    → (p : Plan) → Contains plans p → (i : ℕ) → i ≤ length p.acts → (low_of floor exempt p i ≤ at t p i) × (at t p i ≤ cap_of horizon p i)
within-each plans count floor horizon exempt own_low t in_order within p in' i le = rw (plan_of-itself plans p in_order in') at (within (kept p.sheet i) (p, in', refl, le))
