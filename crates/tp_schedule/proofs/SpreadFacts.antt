-- The first mode in a stretch is one in which the plans hold the resource there, and where there is none, they hold it in
-- no mode but the one that is passed over. So modes are spread where none other is found around a tick.
use Rattle.std.proofs.Common.{◌≡◌, ◌≢◌, ◌⊎◌, inl, inr, ℕ, ℤ, pos, negsuc, ◌+◌, ◌-◌, ◌≤◌, ◌<◌, Bool, true, false, not, ◌&&◌, ◌==◌, cond, List, [], ◌∷◌, Option, Some, None, refl, arith, Contains, subst}
use Rattle.std.specs.Prelude.{int_le, int_lt, nat_lt}
use Rattle.std.proofs.lemmas.Bool.{and_parts}
use Rattle.std.proofs.lemmas.Bool.Decides.{nat_tests}
use Rattle.std.proofs.lemmas.Int.{ints}
use Rattle.tp_machine.specs.Modes.{mode_of, gap_at}
use Rattle.tp_machine.specs.ModuleUse.{action_at, begin_of, end_of, covers}
use Rattle.tp_machine.specs.declared.parts.HoldRule.{HoldRule}
use Rattle.tp_machine.specs.declared.parts.ResId.{ResId}
use Rattle.tp_machine.specs.declared.machine.Machine.{Machine}
use Rattle.tp_schedule.specs.Holders.{runs_of, holds_of_act, is_held_by, IsHeldIn}
use Rattle.tp_schedule.specs.Legality.{IsSpreadAt}
use Rattle.tp_schedule.specs.OutageSpread.{or_later, first_of, is_held_within, is_passed, mode_within, mode_of_run, mode_of_plan}
use Rattle.tp_schedule.specs.declared.parts.Plan.{Plan}
use Rattle.tp_schedule.specs.declared.outage_spread.Stretch.{Stretch}
use Rattle.tp_schedule.proofs.Membership.{Contains-cons_cases, Contains-here, Contains-later}

-- what is found nowhere is found at no element
none_at : {X : Type 0} (find : X → Option ℕ) (xs : List X) (x : X) → first_of find xs ≡ None → Contains xs x → find x ≡ None
none_at find [] x none in' = absurd (omega (arith, in'.1))
none_at find (y ∷ xs) x none in' = go (find y) refl none (λ rest later. none_at find xs x rest later) where
  go : (o : Option ℕ) → find y ≡ o → or_later o (first_of find xs) ≡ None → (first_of find xs ≡ None → Contains xs x → find x ≡ None) → find x ≡ None
  go None e rest at = elim (Contains-cons_cases y xs x in') [
    | inl same ↦ subst (λ z. find z ≡ None) same e
    | inr later ↦ at rest later
  ]
  go (Some n) e rest at = cc

-- what is found is found at an element
record FoundAt {X : Type 0} (find : X → Option ℕ) (xs : List X) (n : ℕ) : Type 0 where
  at : X
  known : Contains xs at
  finds : find at ≡ Some n

found_at : {X : Type 0} (find : X → Option ℕ) (xs : List X) (n : ℕ) → first_of find xs ≡ Some n → FoundAt find xs n
found_at find [] n found = cc
found_at {X} find (y ∷ xs) n found = go (find y) refl found (found_at find xs n) where
  go : (o : Option ℕ) → find y ≡ o → or_later o (first_of find xs) ≡ Some n → (first_of find xs ≡ Some n → FoundAt find xs n) → FoundAt find (y ∷ xs) n
  go None e rest later = let f = later rest in record { at = f.at; known = Contains-later y xs f.at f.known; finds = f.finds }
  go (Some m) e rest later = record { at = y; known = Contains-here y xs; finds = cc }

-- ---- one hold
both_true : (a b : Bool) → a ≡ true → b ≡ true → (a && b) ≡ true
both_true a b e f = grind arith

-- a tick of a hold lies in the stretch
touches : (b e : ℤ) (low high tick : ℕ) → low ≤ tick → tick ≤ high → (int_le b (pos tick) && int_lt (pos tick) e) ≡ true → (int_lt b e && int_le b (pos high) && int_lt (pos low) e) ≡ true
touches b e low high tick below above covers' = grind (arith, ints)

-- a tick of a hold in a stretch
record Touch (b e : ℤ) (low high : ℕ) : Type 0 where
  tick : ℕ
  below : low ≤ tick
  above : tick ≤ high
  covers' : (int_le b (pos tick) && int_lt (pos tick) e) ≡ true

touched : (b e : ℤ) (low high : ℕ) → low ≤ high → (int_lt b e && int_le b (pos high) && int_lt (pos low) e) ≡ true → Touch b e low high
touched (negsuc n) e low high some test = record { tick = low; below = omega arith; above = some; covers' = grind (arith, ints) }
touched (pos n) e low high some test = go (int_le (pos n) (pos low)) refl where
  go : (c : Bool) → int_le (pos n) (pos low) ≡ c → Touch (pos n) e low high
  go true is = record { tick = low; below = omega arith; above = some; covers' = grind (arith, ints) }
  go false is = record { tick = n; below = grind (arith, ints); above = grind (arith, ints); covers' = grind (arith, ints) }

-- where the hold covers a tick of the stretch and yet no mode is found, its mode is passed over
passed_over : (s : Stretch) (start end tick : ℕ) (h : HoldRule) → mode_within s start end h ≡ None → s.first ≤ tick → tick ≤ s.first + s.more → is_held_by h s.resource.0 start end tick ≡ true → is_passed s.besides (mode_of h) ≡ true
unfolding mode_within
passed_over s start end tick h none below above held' = go (is_passed s.besides (mode_of h)) refl where
  parts : ((h.resource.0 == s.resource.0) ≡ true) × (covers h start end tick ≡ true)
  parts = and_parts (h.resource.0 == s.resource.0) (covers h start end tick) held'

  reaches : (int_lt (begin_of h start end) (end_of h start end) && int_le (begin_of h start end) (pos (s.first + s.more)) && int_lt (pos s.first) (end_of h start end)) ≡ true
  reaches = touches (begin_of h start end) (end_of h start end) s.first (s.first + s.more) tick below above parts.1

  within : is_held_within s start end h ≡ true
  within = rw (parts.0, reaches) refl

  go : (b : Bool) → is_passed s.besides (mode_of h) ≡ b → b ≡ true
  go true is = refl
  go false is = let q : cond (is_held_within s start end h && not (is_passed s.besides (mode_of h))) (Some (mode_of h)) None ≡ None = none in let r : (is_held_within s start end h && not (is_passed s.besides (mode_of h))) ≡ true = rw (within, is) refl in absurd (cc)

-- the mode that is found is that of the hold, which covers a tick of the stretch
record FoundOf (s : Stretch) (start end mode : ℕ) (h : HoldRule) : Type 0 where
  tick : ℕ
  below : s.first ≤ tick
  above : tick ≤ s.first + s.more
  covers' : is_held_by h s.resource.0 start end tick ≡ true
  mode_is : mode_of h ≡ mode
  passed : is_passed s.besides mode ≡ false

found_of : (s : Stretch) (start end mode : ℕ) (h : HoldRule) → s.first ≤ s.first + s.more → mode_within s start end h ≡ Some mode → FoundOf s start end mode h
unfolding mode_within
found_of s start end mode h some found = go (is_held_within s start end h) refl (is_passed s.besides (mode_of h)) refl found where
  go : (b : Bool) → is_held_within s start end h ≡ b → (c : Bool) → is_passed s.besides (mode_of h) ≡ c → cond (b && not c) (Some (mode_of h)) None ≡ Some mode → FoundOf s start end mode h
  go false is c passed e = cc
  go true is true passed e = cc
  go true is false passed e =
      let (on, reaches) = and_parts (h.resource.0 == s.resource.0) (int_lt (begin_of h start end) (end_of h start end) && int_le (begin_of h start end) (pos (s.first + s.more)) && int_lt (pos s.first) (end_of h start end)) is in
      let t = touched (begin_of h start end) (end_of h start end) s.first (s.first + s.more) some reaches in
      let same : mode_of h ≡ mode = cc in
      record { tick = t.tick; below = t.below; above = t.above; covers' = both_true (h.resource.0 == s.resource.0) (covers h start end t.tick) on t.covers'; mode_is = same; passed = rw same at passed }

-- ---- the plans
module _ (machine : Machine) (s : Stretch) (plans : List Plan) where
  none_held : first_of (mode_of_plan machine s) plans ≡ None → (tick mode : ℕ) → s.first ≤ tick → tick ≤ s.first + s.more → IsHeldIn machine plans s.resource.0 tick mode → is_passed s.besides mode ≡ true
  none_held none tick mode below above h =
      let of-plan = none_at (mode_of_plan machine s) plans h.plan none h.planned in
      let of-run = none_at (mode_of_run machine s) (runs_of h.plan) h.run of-plan h.runs in
      let of-hold = none_at (mode_within s h.run.start h.run.end) (holds_of_act (action_at machine h.run.act.0)) h.hold of-run h.holds in
      subst (λ m. is_passed s.besides m ≡ true) h.mode_is (passed_over s h.run.start h.run.end tick h.hold of-hold below above h.covers)

  -- a tick of the stretch at which the plans hold the resource in the mode
  record HeldThere (mode : ℕ) : Type 0 where
    tick : ℕ
    below : s.first ≤ tick
    above : tick ≤ s.first + s.more
    holds : IsHeldIn machine plans s.resource.0 tick mode
    passed : is_passed s.besides mode ≡ false

  held_there : (mode : ℕ) → s.first ≤ s.first + s.more → first_of (mode_of_plan machine s) plans ≡ Some mode → HeldThere mode
  held_there mode some found =
      let p = found_at (mode_of_plan machine s) plans mode found in
      let r = found_at (mode_of_run machine s) (runs_of p.at) mode p.finds in
      let h = found_at (mode_within s r.at.start r.at.end) (holds_of_act (action_at machine r.at.act.0)) mode r.finds in
      let f = found_of s r.at.start r.at.end mode h.at some h.finds in
      record {
        tick = f.tick;
        below = f.below;
        above = f.above;
        holds = record { plan = p.at; planned = p.known; run = r.at; runs = r.known; hold = h.at; holds = h.known; covers = f.covers'; mode_is = f.mode_is };
        passed = f.passed;
      }

-- ---- modes around a tick
module _ (machine : Machine) (plans : List Plan) (resource : ResId) (tick : ℕ) where
  -- the tick alone, and a stretch around it in which a mode is passed over
  abbrev pub here : Stretch
  here = record { resource = resource; first = tick; more = 0; besides = None }

  abbrev pub around : ℕ → ℕ → ℕ → Stretch
  around first more mode = record { resource = resource; first = first; more = more; besides = Some mode }

  same_mode : (m n : ℕ) → (m == n) ≡ true → m ≡ n
  same_mode m n test = grind (arith, nat_tests)

  other_mode : (m n : ℕ) → (m == n) ≡ false → m ≢ n
  other_mode m n test same = absurd (grind (arith, nat_tests))

  -- the plans don't hold the resource at the tick
  pub spread_unheld : first_of (mode_of_plan machine here) plans ≡ None → IsSpreadAt machine plans resource.0 tick
  spread_unheld unheld other m n one two differ =
      let passed : false ≡ true = none_held machine here plans unheld tick m (omega arith) (omega arith) one in absurd (cc)

  module _ (first more mode : ℕ) (from : first ≡ tick - gap_at machine resource.0) (until : first + more ≡ tick + gap_at machine resource.0) (found : first_of (mode_of_plan machine here) plans ≡ Some mode) where
    in_mode : first_of (mode_of_plan machine (around first more mode)) plans ≡ None → (t k : ℕ) → first ≤ t → t ≤ first + more → IsHeldIn machine plans resource.0 t k → mode ≡ k
    in_mode alone t k below above h = same_mode mode k (none_held machine (around first more mode) plans alone t k below above h)

    -- they hold it in one mode, and in no other around the tick
    pub spread_alone : first_of (mode_of_plan machine (around first more mode)) plans ≡ None → IsSpreadAt machine plans resource.0 tick
    spread_alone alone other m n one two differ =
        go (gap_at machine resource.0) from until (nat_lt (tick + gap_at machine resource.0) other) refl (nat_lt (other + gap_at machine resource.0) tick) refl
        (λ below above. in_mode alone tick m below above one) (λ below above. in_mode alone other n below above two) where
          go : (gap : ℕ) → first ≡ tick - gap → first + more ≡ tick + gap → (b : Bool) → nat_lt (tick + gap) other ≡ b → (c : Bool) → nat_lt (other + gap) tick ≡ c
              → (first ≤ tick → tick ≤ first + more → mode ≡ m) → (first ≤ other → other ≤ first + more → mode ≡ n) → (tick + gap < other) ⊎ (other + gap < tick)
          go gap begins ends true e c f at near = inl (grind (arith, nat_tests))
          go gap begins ends false e true f at near = inr (grind (arith, nat_tests))
          go gap begins ends false e false f at near =
              let p : tick ≤ other + gap = grind (arith, nat_tests) in
              let q : other ≤ tick + gap = grind (arith, nat_tests) in
              let one-is : mode ≡ m = at (omega arith) (omega arith) in
              let two-is : mode ≡ n = near (omega arith) (omega arith) in
              absurd (differ (cc))

    -- they hold it in one mode at the tick, and in another around it
    pub not_spread : (another : ℕ) → first_of (mode_of_plan machine (around first more mode)) plans ≡ Some another → ¬ IsSpreadAt machine plans resource.0 tick
    not_spread another also spread =
        let h = held_there machine here plans mode (omega arith) found in
        let k = held_there machine (around first more mode) plans another (omega arith) also in
        let at : h.tick ≡ tick = omega (arith, h.below, h.above) in
        let one : IsHeldIn machine plans resource.0 tick mode = subst (λ t. IsHeldIn machine plans resource.0 t mode) at h.holds in
        apart (gap_at machine resource.0) k.tick from until k.below k.above (spread k.tick mode another one k.holds (other_mode mode another k.passed)) where
          apart : (gap t : ℕ) → first ≡ tick - gap → first + more ≡ tick + gap → first ≤ t → t ≤ first + more → (tick + gap < t) ⊎ (t + gap < tick) → ⊥
          apart gap t begins ends below above (inl after) = absurd (omega arith)
          apart gap t begins ends below above (inr before) = absurd (omega arith)
