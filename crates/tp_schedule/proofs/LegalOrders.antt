-- A schedule has one holder at most exactly where its slots, in the order of their times, lie apart.
use Rattle.std.proofs.Common.{◌≡◌, inl, ℕ, suc, ◌+◌, ◌≤◌, Bool, true, false, cond, ◌==◌, List, [], ◌∷◌, length, filter, refl, ap, sym, arith, Contains, All, AllPairs, ◌∙◌, get_or, Option, Some, None, slice_get, slice_index, IsSomeAnd, add-one}
use Rattle.std.specs.Prelude.{IsPermutation}
use Rattle.std.proofs.lemmas.Int.{ints}
use Rattle.std.proofs.lemmas.List.Elements.{All-append, All-cons, All-head, All-tail, All-nil, Contains-get_or}
use Rattle.std.proofs.lemmas.List.Sorted.{IsPermutation-sym, IsPermutation-trans, All-permutation, Contains-permutation, sum_by-IsPermutation}
use Rattle.std.proofs.lemmas.List.Sums.{length-filter}
use Rattle.tp_machine.specs.Machines.{IsMachine}
use Rattle.tp_machine.specs.Modes.{gap_at}
use Rattle.tp_machine.specs.ModuleUse.{action_at}
use Rattle.tp_schedule.proofs.CoveredTicks.{covered, Spread, AllPairs-from_covered, covered-from_AllPairs, spread_from_AllPairs}
use Rattle.tp_schedule.proofs.HeldCount.{IsTimedBy, length-held}
use Rattle.tp_schedule.proofs.HeldModes.{slots_spread, modes_spread}
use Rattle.tp_schedule.proofs.SlotOrder.{AllPairs-by_begin, IsPermutation-by_begin, apart_unique}
use Rattle.tp_schedule.specs.Holders.{holds_of_act, held}
use Rattle.tp_schedule.specs.Legality.{IsLegal, IsSpreadAt}
use Rattle.tp_schedule.specs.Plans.{IsTimedPlan, LastsWithin}
use Rattle.tp_schedule.specs.Spots.{Spot, Ticks, Slot, IsApart, AreApart, slots_by, slots_from, slots_of, slots, ticks_of, slot_order, IsSoundSlot}
use Rattle.tp_schedule.specs.Times.{KeepsOrders}
use Rattle.tp_machine.specs.declared.parts.ActId.{ActId}
use Rattle.tp_machine.specs.declared.parts.Action.{Action}
use Rattle.tp_machine.specs.declared.parts.HoldRule.{HoldRule}
use Rattle.tp_machine.specs.declared.machine.Machine.{Machine}
use Rattle.tp_schedule.specs.declared.parts.Plan.{Plan}
use Rattle.tp_schedule.specs.declared.parts.SheetId.{SheetId}
use Rattle.tp_schedule.specs.Spots.Spot.{kept}
use Rattle.tp_schedule.proofs.CopyFacts.{InOrder, plan_of-itself}

-- a filter keeps as many of a list in another order
pub length-filter-IsPermutation : {X : Type 0} (p : X → Bool) (xs ys : List X) → IsPermutation xs ys → length (filter p xs) ≡ length (filter p ys)
length-filter-IsPermutation p xs ys same = length-filter p xs ∙ sym (sum_by-IsPermutation (λ x. cond (p x) 1 0) xs ys same) ∙ sym (length-filter p ys)

-- holds are sound where their actions last within their ranges
abbrev pub LastsBy : Machine → Ticks → SheetId → ℕ → List ActId → Type 0
LastsBy machine t copy n acts = (i j : ℕ) (act : ActId) → j ≡ n + i → slice_get acts i ≡ Some act → LastsWithin machine act (t (kept copy j)) (t (kept copy (suc j)))

sound_by_rules : (t : Ticks) (resource : ℕ) (from to : Spot) (rules : List HoldRule) → All (λ rule. IsSoundSlot t (record { rule = rule; from = from; to = to })) rules → All (IsSoundSlot t) (slots_by resource from to rules)
sound_by_rules t resource from to [] all = All-nil (IsSoundSlot t)
sound_by_rules t resource from to (h ∷ rules) all = go (h.resource.0 == resource) (sound_by_rules t resource from to rules (All-tail (λ rule. IsSoundSlot t (record { rule = rule; from = from; to = to })) h rules all)) where
  go : (b : Bool) → All (IsSoundSlot t) (slots_by resource from to rules) → All (IsSoundSlot t) (cond b (record { rule = h; from = from; to = to } ∷ slots_by resource from to rules) (slots_by resource from to rules))
  go true rest = All-cons (IsSoundSlot t) (record { rule = h; from = from; to = to }) (slots_by resource from to rules) (All-head (λ rule. IsSoundSlot t (record { rule = rule; from = from; to = to })) h rules all) rest
  go false rest = rest

pub sound_by_act : (machine : Machine) → IsMachine machine → (t : Ticks) (resource : ℕ) (from to : Spot) (act : ActId) → LastsWithin machine act (t from) (t to) → All (IsSoundSlot t) (slots_by resource from to (holds_of_act (action_at machine act.0)))
sound_by_act machine rules t resource from to act lasts = go (action_at machine act.0) refl lasts where
  go : (o : Option Action) → action_at machine act.0 ≡ o → IsSomeAnd o (λ a. (t from + a.least ≤ t to) × (t to ≤ t from + a.most)) → All (IsSoundSlot t) (slots_by resource from to (holds_of_act o))
  go None e lasts' = absurd lasts'
  go (Some a) e lasts' = sound_by_rules t resource from to a.holds (λ k d within.
      let sound = rules.sound act.0 a e (get_or a.holds k d) (Contains-get_or a.holds k d within) (t from) (t to) lasts'.0 lasts'.1 in
      let late = sound.1 in
      record { long = sound.0; late = omega (arith, ints) })

pub sound_from : (machine : Machine) → IsMachine machine → (t : Ticks) (resource : ℕ) (copy : SheetId) (n : ℕ) (acts : List ActId) → LastsBy machine t copy n acts → All (IsSoundSlot t) (slots_from machine resource copy n acts)
sound_from machine rules t resource copy n [] lasts = All-nil (IsSoundSlot t)
sound_from machine rules t resource copy n (act ∷ acts) lasts =
    All-append (IsSoundSlot t) (slots_by resource (kept copy n) (kept copy (suc n)) (holds_of_act (action_at machine act.0))) (slots_from machine resource copy (suc n) acts)
    (sound_by_act machine rules t resource (kept copy n) (kept copy (suc n)) act (lasts 0 n act (omega arith) refl))
    (sound_from machine rules t resource copy (suc n) acts (λ i j a e is. lasts (suc i) j a (omega arith) is))

pub sound_plans : (machine : Machine) → IsMachine machine → (t : Ticks) (resource : ℕ) (plans : List Plan) → All (λ p. LastsBy machine t p.sheet 0 p.acts) plans → All (IsSoundSlot t) (slots machine resource plans)
sound_plans machine rules t resource [] all = All-nil (IsSoundSlot t)
sound_plans machine rules t resource (p ∷ plans) all =
    All-append (IsSoundSlot t) (slots_of machine resource p) (slots machine resource plans)
    (sound_from machine rules t resource p.sheet 0 p.acts (All-head (λ q. LastsBy machine t q.sheet 0 q.acts) p plans all))
    (sound_plans machine rules t resource plans (All-tail (λ q. LastsBy machine t q.sheet 0 q.acts) p plans all))

-- the ticks of a schedule are those of its plans
pub IsTimedBy-plans : (machine : Machine) (plans : List Plan) → InOrder plans → All (IsTimedPlan machine) plans → All (IsTimedBy (ticks_of plans)) plans
IsTimedBy-plans machine plans in_order timed k d within =
    let p = get_or plans k d in
    let one : IsTimedPlan machine (get_or plans k d) = timed k d within in
    let is = plan_of-itself plans (get_or plans k d) in_order (Contains-get_or plans k d within) in
    (one.one_more, λ i j e inside. rw (e, is) (ap (slice_index (get_or plans k d).points) (omega arith)))

pub LastsBy-plans : (machine : Machine) (plans : List Plan) → InOrder plans → All (IsTimedPlan machine) plans → All (λ p. LastsBy machine (ticks_of plans) p.sheet 0 p.acts) plans
LastsBy-plans machine plans in_order timed k d within =
    let one : IsTimedPlan machine (get_or plans k d) = timed k d within in
    let is = plan_of-itself plans (get_or plans k d) in_order (Contains-get_or plans k d within) in
    λ i j act e at'. let same : j ≡ i = omega arith in rw (same, is, ← add-one) (one.lasts i act at')

-- the holds of a legal schedule lie apart, in the order of their times
pub legal_apart : (machine : Machine) (plans : List Plan) → IsMachine machine → IsLegal machine plans → KeepsOrders machine plans (ticks_of plans)
legal_apart machine plans rules legal resource =
    let t = ticks_of plans in
    let sound = sound_plans machine rules (ticks_of plans) resource plans (LastsBy-plans machine plans legal.in_order legal.timed) in
    let timed = IsTimedBy-plans machine plans legal.in_order legal.timed in
    AllPairs-by_begin (gap_at machine resource) (ticks_of plans) (slots machine resource plans) sound
    (AllPairs-from_covered (gap_at machine resource) (ticks_of plans) (slots machine resource plans) sound
    (λ tick. let counted = length-held machine rules (ticks_of plans) resource tick plans timed in omega (arith, legal.single resource tick))
    (slots_spread machine (ticks_of plans) resource plans timed (legal.spread resource)))

-- holds that lie apart in some order have that order, none is held twice, and different modes are spread
pub apart_order : (machine : Machine) (plans : List Plan) → IsMachine machine → InOrder plans → All (IsTimedPlan machine) plans → (resource : ℕ) (xs : List Slot)
    → IsPermutation (slots machine resource plans) xs → AllPairs (IsApart (gap_at machine resource) (ticks_of plans)) xs
    → (slot_order machine plans resource ≡ xs) × ((tick : ℕ) → length (held machine plans resource tick) ≤ 1) × ((tick : ℕ) → IsSpreadAt machine plans resource tick)
apart_order machine plans rules in_order timed resource xs same apart =
    let sound = sound_plans machine rules (ticks_of plans) resource plans (LastsBy-plans machine plans in_order timed) in
    let by = IsTimedBy-plans machine plans in_order timed in
    let xs-sound = All-permutation (IsSoundSlot (ticks_of plans)) (slots machine resource plans) xs same sound in
    let sorted = IsPermutation-by_begin (ticks_of plans) (slots machine resource plans) in
    let either : AllPairs (AreApart (gap_at machine resource) (ticks_of plans)) xs = λ i j d before within. inl (apart i j d before within) in
    let once : (tick : ℕ) → length (filter (covered (ticks_of plans) tick) xs) ≤ 1 = λ tick. covered-from_AllPairs (gap_at machine resource) (ticks_of plans) xs either tick in
    let once' : (tick : ℕ) → length (filter (covered (ticks_of plans) tick) (slots machine resource plans)) ≤ 1 = λ tick. rw (length-filter-IsPermutation (covered (ticks_of plans) tick) (slots machine resource plans) xs same) (once tick) in
    let spread : (x y : Slot) → Contains (slots machine resource plans) x → Contains (slots machine resource plans) y → Spread (gap_at machine resource) (ticks_of plans) x y =
    λ x y in-x in-y. spread_from_AllPairs (gap_at machine resource) (ticks_of plans) xs either x y (Contains-permutation (slots machine resource plans) xs x same in-x) (Contains-permutation (slots machine resource plans) xs y same in-y) in (
      apart_unique (gap_at machine resource) (ticks_of plans) (slot_order machine plans resource) xs
          (All-permutation (IsSoundSlot (ticks_of plans)) (slots machine resource plans) (slot_order machine plans resource) sorted sound) xs-sound
          (AllPairs-by_begin (gap_at machine resource) (ticks_of plans) (slots machine resource plans) sound (AllPairs-from_covered (gap_at machine resource) (ticks_of plans) (slots machine resource plans) sound once' spread))
          apart
          (IsPermutation-trans (slot_order machine plans resource) (slots machine resource plans) xs (IsPermutation-sym (slots machine resource plans) (slot_order machine plans resource) sorted) same),
      λ tick. let counted = length-held machine rules (ticks_of plans) resource tick plans by in omega (arith, once' tick),
      modes_spread machine (ticks_of plans) resource plans by spread,
    )
