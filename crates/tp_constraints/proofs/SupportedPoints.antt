-- A schedule whose points are all supported is least, and a point that marks do not reach can stand earlier.
use Rattle.std.proofs.Common.{◌≡◌, ℕ, suc, ◌+◌, ◌-◌, ◌≤◌, ◌<◌, Bool, true, false, List, length, refl, sym, arith, ◌∙◌, ap, cond, Contains, All, Some, map, get_or}
use Rattle.std.proofs.lemmas.Int.{ints}
use Rattle.std.proofs.lemmas.Option.{same_Some}
use Rattle.std.proofs.lemmas.Bool.{true≢false}
use Rattle.std.proofs.lemmas.List.Elements.{All-contains, Contains-get_or}
use Rattle.tp_machine.specs.declared.machine.Machine.{Machine}
use Rattle.tp_schedule.specs.Answers.{IsLeast, IsRetimed, KeepsHorizon}
use Rattle.tp_schedule.specs.Plans.{point, plan_of}
use Rattle.tp_schedule.specs.Spots.{Spot, Ticks, ticks_of}
use Rattle.tp_schedule.specs.Spots.Spot.{kept}
use Rattle.tp_schedule.specs.Times.{timed_by}
use Rattle.tp_schedule.specs.declared.parts.Plan.{Plan}
use Rattle.tp_schedule.proofs.CopyFacts.{plan_of-itself}
use Rattle.tp_schedule.proofs.Membership.{Contains-map}
use Rattle.tp_choices.specs.Retimings.{IgnoresPoints}
use Rattle.tp_choices.proofs.RetimedSchedules.{ticks_retime, retimed_ticks}
use Rattle.tp_choices.proofs.CompletePlans.{point-timed_by}
use Rattle.tp_constraints.specs.Gaps.{Gap, KeepsGap, KeepsConstraints, IsPoint, cap_at}
use Rattle.tp_constraints.specs.Laws.{IsLoadable, plans_gaps}
use Rattle.tp_constraints.specs.Supports.{IsTight, IsSupported, IsSupportedIn, IsMarking, lows_of}
use Rattle.tp_constraints.specs.Supports.IsSupported.{at_low, by_gap}
use Rattle.tp_constraints.proofs.ScheduleGaps.{gaps_law}

All-from_each : (P : Gap → Type 0) (gaps : List Gap) → ((g : Gap) → Contains gaps g → P g) → All P gaps
All-from_each P gaps each k d within = each (get_or gaps k d) (Contains-get_or gaps k d within)

module _ (known : Spot → Type 0) (low high : Spot → ℕ) (gaps : List Gap) (t t' : Ticks) (keeps : KeepsConstraints known low high gaps t') where
  -- no ticks that keep lows and gaps are before those of a supported point
  supported-first : (s : Spot) → IsSupported known low gaps t s → t s ≤ t' s
  supported-first _ (at_low s in' is) = omega (arith, (keeps.0 s in').0, is)
  supported-first _ (by_gap g in' tight from) =
      let before = supported-first g.from from in
      let kept' = All-contains (KeepsGap t') gaps g keeps.1 in' in
      omega (arith, ints, before, kept', tight)

module _ (machine : Machine) (now : ℕ) (exempt : Plan → Bool) (plans : List Plan) (load : IsLoadable machine now exempt plans) (only_shape : IgnoresPoints exempt) where
  -- the tick of a point is that of its plan
  point-at : (p : Plan) → Contains plans p → (i : ℕ) → ticks_of plans (kept p.sheet i) ≡ point p i
  point-at p in' i = rw (plan_of-itself plans p load.legal.in_order in') refl

  -- other times of the schedule keep its bounds and gaps
  pub retimed-keeps : (plans' : List Plan) → IsRetimed machine now exempt plans plans'
      → KeepsConstraints (IsPoint plans 0) (lows_of machine now exempt plans) (cap_at (now + machine.window) plans) (plans_gaps machine plans) (ticks_of plans')
  retimed-keeps plans' re = (gaps_law machine now exempt plans (ticks_of plans') load).0 (retimed_ticks machine now exempt plans plans' load.legal only_shape re)

  -- so no times are earlier than those of a schedule whose points are all supported
  pub supported-least : ((s : Spot) → IsPoint plans 0 s → IsSupportedIn machine now exempt plans s) → IsLeast machine now exempt plans
  supported-least all plans' re p in' i le =
      let first = supported-first (IsPoint plans 0) (lows_of machine now exempt plans) (cap_at (now + machine.window) plans) (plans_gaps machine plans) (ticks_of plans) (ticks_of plans') (retimed-keeps plans' re)
      (kept p.sheet i) (all (kept p.sheet i) (p, in', refl, le)) in
      omega (arith, first, point-at p in' i)

  module _ (horizon : KeepsHorizon machine now plans) where
    -- and so do its own
    pub itself : IsRetimed machine now exempt plans plans
    itself = record {
      legal = load.legal;
      same = refl;
      fixed = λ p p' in' is i fixed le. (let e : Some p ≡ Some p' = sym (plan_of-itself plans p load.legal.in_order in') ∙ is in let s : p ≡ p' = same_Some p p' e in ap (λ q. point q i) (sym s));
      orders = λ r. refl;
      floors = load.floors;
      horizon = horizon;
    }

    module _ (marked : Spot → Bool) (marking : IsMarking machine now exempt plans marked) where
      -- the points that are not marked, one tick earlier
      lowered : Ticks
      lowered s = cond (marked s) (ticks_of plans s) (ticks_of plans s - 1)

      was : KeepsConstraints (IsPoint plans 0) (lows_of machine now exempt plans) (cap_at (now + machine.window) plans) (plans_gaps machine plans) (ticks_of plans)
      was = retimed-keeps plans itself

      stays-at : (s : Spot) → marked s ≡ true → lowered s ≡ ticks_of plans s
      unfolding lowered
      stays-at s e = rw e refl

      falls-at : (s : Spot) → marked s ≡ false → lowered s ≡ ticks_of plans s - 1
      unfolding lowered
      falls-at s e = rw e refl

      -- a point that is not marked stands above its least tick
      above-low : (s : Spot) → IsPoint plans 0 s → marked s ≡ false → lows_of machine now exempt plans s < ticks_of plans s
      above-low s in' e =
          let low = (was.0 s in').0 in
          let apart : ticks_of plans s ≡ lows_of machine now exempt plans s → ⊥ = λ same. true≢false (sym (marking.lows s in' same) ∙ e) in
          omega (arith, low, apart)

      within : (s : Spot) → IsPoint plans 0 s → (lows_of machine now exempt plans s ≤ lowered s) × (lowered s ≤ cap_at (now + machine.window) plans s)
      within s in' = go (marked s) refl where
        go : (b : Bool) → marked s ≡ b → (lows_of machine now exempt plans s ≤ lowered s) × (lowered s ≤ cap_at (now + machine.window) plans s)
        go true e = rw (stays-at s e) (was.0 s in')
        go false e = let above = above-low s in' e in let w = was.0 s in' in let f = falls-at s e in (omega arith, omega (arith, w.1))

      -- a gap without room leads on, so that its end does not fall alone
      keeps-gap : (g : Gap) → Contains (plans_gaps machine plans) g → KeepsGap lowered g
      keeps-gap g in' = go (marked g.from) (marked g.to) refl refl where
        old : KeepsGap (ticks_of plans) g
        old = All-contains (KeepsGap (ticks_of plans)) (plans_gaps machine plans) g was.1 in'

        go : (b c : Bool) → marked g.from ≡ b → marked g.to ≡ c → KeepsGap lowered g
        go true true e f = rw (stays-at g.from e, stays-at g.to f) old
        go true false e f =
            let room : IsTight (ticks_of plans) g → ⊥ = λ tight. true≢false (sym (marking.goes_on g in' tight e) ∙ f) in
            let a = stays-at g.from e in
            let b = falls-at g.to f in
            let k = old in
            omega (arith, ints, a, b, k, room)
        go false true e f = let a = falls-at g.from e in let b = stays-at g.to f in let k = old in omega (arith, ints, a, b, k)
        go false false e f =
            let first : ticks_of plans g.from ≡ 0 → ⊥ = λ zero. true≢false (sym (marking.at_zero g.from zero) ∙ e) in
            let a = falls-at g.from e in
            let b = falls-at g.to f in
            let k = old in
            omega (arith, ints, a, b, k, first)

      -- so a point that is not marked can stand one tick earlier
      pub unmarked-later : (p : Plan) → Contains plans p → (i : ℕ) → i ≤ length p.acts → marked (kept p.sheet i) ≡ false
          → (plans' : List Plan) × IsRetimed machine now exempt plans plans' × (suc (ticks_of plans' (kept p.sheet i)) ≡ point p i)
      unmarked-later p in' i le e =
          let k = (gaps_law machine now exempt plans lowered load).1 (within, All-from_each (KeepsGap lowered) (plans_gaps machine plans) keeps-gap) in
          let re = ticks_retime machine now exempt plans lowered load.legal only_shape k.0 k.1 in
          let there : Contains (map (timed_by lowered) plans) (timed_by lowered p) = Contains-map (timed_by lowered) plans p in' in
          let found : plan_of p.sheet (map (timed_by lowered) plans) ≡ Some (timed_by lowered p) = plan_of-itself (map (timed_by lowered) plans) (timed_by lowered p) re.legal.in_order there in
          let at : ticks_of (map (timed_by lowered) plans) (kept p.sheet i) ≡ lowered (kept p.sheet i) = rw found (point-timed_by lowered p i le) in
          let above = above-low (kept p.sheet i) (p, in', refl, le) e in
          let falls = falls-at (kept p.sheet i) e in
          let same = point-at p in' i in
          (map (timed_by lowered) plans, re, omega (arith, at, falls, above, same))
