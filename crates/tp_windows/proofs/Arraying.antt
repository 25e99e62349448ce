-- Windows as arrays.
use Rattle.std.proofs.Common.{◌≡◌, ℕ, ◌+◌, ◌<◌, ◌≤◌, false, List, length, refl, ap, sym, arith, subst}
use Rattle.std.specs.Prelude.{slice_index}
use Rattle.std.proofs.lemmas.Option.{slice_get_within}
use Rattle.std.proofs.lemmas.List.Elements.{All-contains}
use Rattle.tp_base.specs.Net.{Net}
use Rattle.tp_machine.specs.declared.machine.Machine.{Machine}
use Rattle.tp_schedule.specs.Spots.{Spot, Ticks}
use Rattle.tp_schedule.specs.Spots.Spot.{kept, own}
use Rattle.tp_schedule.specs.declared.parts.Ask.{Ask}
use Rattle.tp_schedule.specs.declared.parts.Plan.{Plan}
use Rattle.tp_choices.proofs.Lists.{All-map_from}
use Rattle.tp_windows.specs.Halves.{Meets}
use Rattle.tp_constraints.proofs.Lists.{contains-get, get-contains, get-there}
use Rattle.tp_constraints.proofs.PointNumbers.{number-at}
use Rattle.tp_constraints.proofs.Solutions.{times-solve}
use Rattle.tp_constraints.specs.Gaps.{IsPoint as IsPointOf, cap_at, low_at}
use Rattle.tp_constraints.specs.Laws.{LoadedTimes, no_own}
use Rattle.tp_constraints.specs.Nets.{IsLoadedNet}
use Rattle.tp_constraints.specs.Numbers.{number, spot_at}
use Rattle.tp_windows.specs.Arrays.{ArrayEmpty, ArrayHalves, ArrayHigh, ArrayLow, ArrayNarrows, ArrayWindows, IsBetween, IsTimes, windows_by, NumberedHalf}
use Rattle.tp_windows.specs.Windows.{HoldsWithin, IsPoint, MayStand}

known-point : (plans : List Plan) (s : Spot) → IsPoint plans s → IsPointOf plans 0 s
known-point plans s is = subst (λ x. IsPointOf plans 0 x) (sym is.spot) (is.plan, is.in_plans, refl, is.within)

point-known : (plans : List Plan) (s : Spot) → IsPointOf plans 0 s → IsPoint plans s
point-known plans (kept copy i) (p, in', same, le) = record { plan = p; number = i; in_plans = in'; within = le; spot = ap (λ c. kept c i) (sym same) }
point-known plans (own n) less = absurd (omega (arith, less))

module _ (machine : Machine) (plans : List Plan) (ask : Ask) (limit : ℕ) (table : List Spot) (net : Net) (is : IsLoadedNet machine ask.now (λ _. false) plans table net) (t : Ticks) where
  abbrev y : ℕ → ℕ
  y i = t (spot_at table i)

  numbered : (s : Spot) → IsPoint plans s → (number table s < length table) × (spot_at table (number table s) ≡ s)
  numbered s point =
      let g = get-contains table s (is.is_table.all s (known-point plans s point)) in
      let n = number-at table is.is_table.differ g.0 s g.1 in
      let less = slice_get_within table g.0 s g.1 in
      (omega (arith, n, less), rw (n, g.1) refl)

  at-number : (s : Spot) → IsPoint plans s → y (number table s) ≡ t s
  at-number s point = ap t (numbered s point).1

  pub times : MayStand machine plans ask limit t → IsTimes plans ask table net limit y
  times stands = record {
    solution = times-solve (IsPointOf plans 0) (low_at (ask.now + machine.lead) (λ _. false) plans no_own) (cap_at (ask.now + machine.window) plans) (LoadedTimes machine ask.now (λ _. false) plans) table net is t (stands.keeps, stands.orders);
    line = λ p in' tray goes delivered before.
        let same = at-number (kept p.sheet (length p.acts)) (record { plan = p; number = length p.acts; in_plans = in'; within = omega arith; spot = refl }) in
        let less = stands.line p in' tray goes delivered before in
        omega (arith, same, less);
  }

  pub to-windows : (lows highs : List ℕ) → length lows ≡ length table → IsBetween y lows highs → HoldsWithin (windows_by table lows highs) plans t
  to-windows lows highs same between s point =
      let n = numbered s point in
      let less = n.0 in
      let bounds = between (number table s) (omega (arith, same, less)) in
      let e = at-number s point in
      let low = bounds.0 in
      let high = bounds.1 in
      (omega (arith, e, low), omega (arith, e, high))

  pub from-windows : (lows highs : List ℕ) → length lows ≡ length table → HoldsWithin (windows_by table lows highs) plans t → IsBetween y lows highs
  from-windows lows highs same within i less =
      let g = get-there table i (omega (arith, same, less)) in
      let point = point-known plans g.0 (All-contains (IsPointOf plans 0) table g.0 is.is_table.only (contains-get table i g.0 g.1)) in
      let n : number table g.0 ≡ i = number-at table is.is_table.differ i g.0 g.1 in
      let bounds = within g.0 point in
      let there : spot_at table i ≡ g.0 = rw (g.1) refl in (
        subst (λ k. slice_index lows k ≤ t (spot_at table i)) n (subst (λ s. slice_index lows (number table g.0) ≤ t s) (sym there) bounds.0),
        subst (λ k. t (spot_at table i) ≤ slice_index highs k) n (subst (λ s. t s ≤ slice_index highs (number table g.0)) (sym there) bounds.1),
      )

pub array_windows : ArrayWindows
array_windows machine plans ask limit table net lows highs is same each t stands =
    to-windows machine plans ask limit table net is t lows highs same (each (λ i. t (spot_at table i)) (times machine plans ask limit table net is t stands))

pub array_narrows : ArrayNarrows
array_narrows machine plans ask limit table net lows highs lows' highs' is same same' each t stands within =
    to-windows machine plans ask limit table net is t lows' highs' same' (each (λ i. t (spot_at table i)) (times machine plans ask limit table net is t stands) (from-windows machine plans ask limit table net is t lows highs same within))

pub array_low : ArrayLow
array_low machine plans ask limit point v table net lows highs lows' highs' is same same' each t stands within less =
    to-windows machine plans ask limit table net is t lows' highs' same' (each (λ i. t (spot_at table i)) (times machine plans ask limit table net is t stands) (from-windows machine plans ask limit table net is t lows highs same within) less)

pub array_high : ArrayHigh
array_high machine plans ask limit point v table net lows highs lows' highs' is same same' each t stands within more =
    to-windows machine plans ask limit table net is t lows' highs' same' (each (λ i. t (spot_at table i)) (times machine plans ask limit table net is t stands) (from-windows machine plans ask limit table net is t lows highs same within) more)

pub array_empty : ArrayEmpty
array_empty machine plans ask limit table net lows highs is same none t stands within =
    none (λ i. t (spot_at table i)) (times machine plans ask limit table net is t stands) (from-windows machine plans ask limit table net is t lows highs same within)

pub array_halves : ArrayHalves
array_halves machine plans ask limit table net lows highs halves is same each t stands meets =
    to-windows machine plans ask limit table net is t lows highs same
    (each (λ i. t (spot_at table i)) (times machine plans ask limit table net is t stands) (All-map_from (Meets t) (λ (h : NumberedHalf). record { spot = spot_at table h.point; tick = h.tick; high = h.high }) halves meets))
