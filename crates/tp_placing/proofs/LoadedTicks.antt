-- The ticks of a schedule that can be loaded keep its bounds and its gaps.
use Rattle.std.proofs.Common.{◌≡◌, ℕ, ◌+◌, ◌<◌, ◌≤◌, false, List, length, map, refl, ap, sym, ◌∙◌, arith, Some, All, Contains}
use Rattle.std.specs.List.{flat_map}
use Rattle.std.proofs.lemmas.List.Elements.{All-contains, All-weaker}
use Rattle.tp_machine.specs.declared.machine.Machine.{Machine}
use Rattle.tp_schedule.specs.Plans.{IsTimedPlan, plan_of, point}
use Rattle.tp_schedule.specs.Spots.{ticks_of}
use Rattle.tp_schedule.specs.declared.parts.Plan.{Plan}
use Rattle.tp_schedule.proofs.CopyFacts.{plan_of-itself}
use Rattle.tp_choices.proofs.RetimedSchedules.{retimed_ticks}
use Rattle.tp_constraints.specs.Gaps.{low_of, cap_of, low_at, cap_at, low_in, cap_in}
use Rattle.tp_constraints.specs.Laws.{LoadedTimes, no_own}
use Rattle.tp_constraints.specs.Numbers.{table_of}
use Rattle.tp_schedule.proofs.Membership.{All-from_contains}
use Rattle.tp_constraints.proofs.Bounds.{within-each}
use Rattle.tp_constraints.proofs.ScheduleGaps.{gaps_law}
use Rattle.tp_placing.specs.Loaded.{CanLoad}
use Rattle.tp_placing.specs.LoadedNet.{HasBounds, lows_of, caps_of, point_count}
use Rattle.tp_placing.specs.LoadedHolds.{ticks_in}
use Rattle.tp_placing.proofs.LiveFacts.{points-few}
use Rattle.tp_placing.proofs.LoadTable.{length-table-of, map-table, length-ticks}

module _ (machine : Machine) (now : ℕ) (plans : List Plan) (can : CanLoad machine now plans) where
  pub timed : (p : Plan) → Contains plans p → IsTimedPlan machine p
  timed p inside = All-contains (IsTimedPlan machine) plans p can.loadable.legal.timed inside

  pub planned : (p : Plan) → Contains plans p → plan_of p.sheet plans ≡ Some p
  planned p inside = plan_of-itself plans p can.loadable.legal.in_order inside

  -- the schedule's own ticks keep it
  pub times : LoadedTimes machine now (λ _. false) plans (ticks_of plans)
  times = retimed_ticks machine now (λ _. false) plans plans can.loadable.legal (λ p points. refl) (record {
    legal = can.loadable.legal;
    same = refl;
    fixed = λ p q inside is i e le. (let same : Some p ≡ Some q = sym (planned p inside) ∙ is in let one : p ≡ q = cc in ap (λ (r : Plan). point r i) (sym one));
    orders = λ r. refl;
    floors = can.loadable.floors;
    horizon = can.horizon;
  })

  pub few-acts : All (λ p. length p.acts ≤ 64) plans
  few-acts = All-weaker (IsTimedPlan machine) (λ p. length p.acts ≤ 64) (λ p t. t.at_most) plans can.loadable.legal.timed

  -- the points of plans that can be loaded are few
  pub points-fit : length (table_of plans) < 4294967296
  points-fit =
      let points = points-few plans few-acts in
      let few = can.few in
      let count = length-table-of plans in
      omega arith

  pub ticks-count : length (ticks_in plans) ≡ point_count plans
  ticks-count = length-ticks plans (λ p inside. (timed p inside).one_more)

  pub lows-map : map (low_at (now + machine.lead) (λ _. false) plans no_own) (table_of plans) ≡ flat_map (lows_of (now + machine.lead)) plans
  lows-map = map-table (low_at (now + machine.lead) (λ _. false) plans no_own) (low_of (now + machine.lead) (λ _. false)) plans (λ p inside i le. ap (λ o. low_in (now + machine.lead) (λ _. false) o i) (planned p inside))

  pub caps-map : map (cap_at (now + machine.window) plans) (table_of plans) ≡ flat_map (caps_of (now + machine.window)) plans
  caps-map = map-table (cap_at (now + machine.window) plans) (cap_of (now + machine.window)) plans (λ p inside i le. ap (λ o. cap_in (now + machine.window) o i) (planned p inside))

  -- its ticks lie between the bounds of its points
  pub bounded : All (HasBounds (now + machine.lead) (now + machine.window)) plans
  bounded = All-from_contains (HasBounds (now + machine.lead) (now + machine.window)) plans (λ p inside. (
      let t = timed p inside in
      let bounds = within-each plans 0 (now + machine.lead) (now + machine.window) (λ _. false) no_own (ticks_of plans) can.loadable.legal.in_order ((gaps_law machine now (λ _. false) plans (ticks_of plans) can.loadable).0 times).0 in
      record {
        formed = record { some = t.some; one_more = t.one_more; released = t.released };
        bounded = λ i le. (let b = bounds p inside i le in omega (arith, b.0, b.1));
      }))
