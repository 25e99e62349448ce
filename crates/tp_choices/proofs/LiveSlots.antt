-- The slots of a new schedule beside those of an old one: a slot of a released action stands as it stood, and one of an
-- unreleased action lies ahead of the moment in both.
use Rattle.std.proofs.Common.{◌≡◌, ◌⊎◌, inl, inr, ℕ, zero, suc, ◌+◌, ◌≤◌, ◌<◌, List, [], ◌∷◌, length, refl, ap, sym, arith, Contains, AllPairs, ◌∙◌, subst, Some, slice_get, add-one}
use Rattle.std.specs.Prelude.{pos, ◌≤ℤ◌}
use Rattle.std.proofs.lemmas.Int.{ints}
use Rattle.std.proofs.lemmas.Bool.{cases_lt}
use Rattle.std.proofs.lemmas.List.Elements.{All-contains, Contains-append_cases, Contains-append_left, Contains-append_right}
use Rattle.tp_machine.specs.ModuleUse.{action_at}
use Rattle.tp_machine.specs.declared.parts.ActId.{ActId}
use Rattle.tp_machine.specs.declared.parts.Action.{Action}
use Rattle.tp_machine.specs.declared.machine.Machine.{Machine}
use Rattle.tp_schedule.specs.declared.parts.Plan.{Plan}
use Rattle.tp_schedule.specs.declared.parts.SheetId.{SheetId}
use Rattle.tp_schedule.specs.Legality.{IsLegal}
use Rattle.tp_schedule.specs.Plans.{IsEarlier, IsTimedPlan, LastsWithin, plan_of, point}
use Rattle.tp_schedule.specs.Spots.{Spot, Slot, begin_at, slots, slots_of, slots_from, ticks_of}
use Rattle.tp_schedule.specs.Spots.Spot.{kept, own}
use Rattle.tp_schedule.proofs.CopyFacts.{plan_of-itself}
use Rattle.tp_schedule.proofs.Membership.{Contains-cons_cases, Contains-here, Contains-later}
use Rattle.tp_choices.proofs.EachSlot.{each_from, later_slot}
use Rattle.tp_choices.proofs.LiveOrders.{IsAhead, IsOld}

-- the slot is the hold of the plan's action i
pub record IsSlotOf (machine : Machine) (p : Plan) (s : Slot) : Type 0 where
  pub i : ℕ
  pub act : ActId
  pub at : slice_get p.acts i ≡ Some act
  pub action : Action
  pub is : action_at machine act.0 ≡ Some action
  pub has : Contains action.holds s.rule
  pub from : s.from ≡ kept p.sheet i
  pub to : s.to ≡ kept p.sheet (suc i)

pub slot_of : (machine : Machine) (resource : ℕ) (p : Plan) (s : Slot) → Contains (slots_of machine resource p) s → IsSlotOf machine p s
slot_of machine resource p s in' =
    All-contains (IsSlotOf machine p) (slots_of machine resource p) s
    (each_from (IsSlotOf machine p) machine resource p.sheet 0 p.acts (λ i j e act at a is rule has. let same : j ≡ i = omega arith in record { i = i; act = act; at = at; action = a; is = is; has = has; from = ap (kept p.sheet) same; to = ap (λ n. kept p.sheet (suc n)) same })) in'

-- the numbers of a point
pub number_of : Spot → ℕ
number_of (kept c i) = i
number_of (own n) = n

pub copy_of : SheetId → Spot → SheetId
copy_of d (kept c i) = c
copy_of d (own n) = d

pub same_number_at : (c d : SheetId) (i j : ℕ) → kept c i ≡ kept d j → i ≡ j
unfolding number_of
same_number_at c d i j e = ap number_of e

pub same_copy_at : (c d : SheetId) (i j : ℕ) → kept c i ≡ kept d j → c ≡ d
unfolding copy_of
same_copy_at c d i j e = ap (copy_of c) e

-- where the actions begin at point n, so do their slots
pub slot_from : (machine : Machine) (resource : ℕ) (copy : SheetId) (n : ℕ) (acts : List ActId) (s : Slot) → Contains (slots_from machine resource copy n acts) s → (i : ℕ) × (s.from ≡ kept copy (n + i))
slot_from machine resource copy n acts s in' =
    All-contains (λ x. (i : ℕ) × (x.from ≡ kept copy (n + i))) (slots_from machine resource copy n acts) s
    (each_from (λ x. (i : ℕ) × (x.from ≡ kept copy (n + i))) machine resource copy n acts (λ i j e act at a is rule has. (i, ap (kept copy) e))) in'

-- a slot of the schedule is a slot of one of its plans
pub slots-in : (machine : Machine) (resource : ℕ) (plans : List Plan) (s : Slot) → Contains (slots machine resource plans) s → (p : Plan) × Contains plans p × Contains (slots_of machine resource p) s
slots-in machine resource [] s in' = absurd (omega (arith, in'.1))
slots-in machine resource (p ∷ plans) s in' = elim (Contains-append_cases (slots_of machine resource p) (slots machine resource plans) s in') [
  | inl here ↦ (p, Contains-here p plans, here)
  | inr later ↦ let rest = slots-in machine resource plans s later in (rest.0, Contains-later p plans rest.0 rest.1, rest.2)
]

pub in-slots-of : (machine : Machine) (resource : ℕ) (plans : List Plan) (p : Plan) (s : Slot) → Contains plans p → Contains (slots_of machine resource p) s → Contains (slots machine resource plans) s
in-slots-of machine resource [] p s in' here = absurd (omega (arith, in'.1))
in-slots-of machine resource (q ∷ plans) p s in' here = elim (Contains-cons_cases q plans p in') [
  | inl is ↦ Contains-append_left (slots_of machine resource q) (slots machine resource plans) s (subst (λ r. Contains (slots_of machine resource r) s) (sym is) here)
  | inr later ↦ Contains-append_right (slots_of machine resource q) (slots machine resource plans) s (in-slots-of machine resource plans p s later here)
]

slice_get-within : {X : Type 0} (xs : List X) (i : ℕ) (x : X) → slice_get xs i ≡ Some x → i < length xs
slice_get-within [] i x e = absurd (cc)
slice_get-within (y ∷ xs) zero x e = omega arith
slice_get-within (y ∷ xs) (suc i) x e = let rest = slice_get-within xs i x e in omega arith

pub slot-within : (machine : Machine) (p : Plan) (s : Slot) (of : IsSlotOf machine p s) → of.i < length p.acts
slot-within machine p s of = slice_get-within p.acts of.i of.act of.at

-- its ticks in a schedule that has the plan
pub slot-ticks : (machine : Machine) (plans : List Plan) (p : Plan) (s : Slot) (of : IsSlotOf machine p s) (q : Plan) → plan_of p.sheet plans ≡ Some q → (ticks_of plans s.from ≡ point q of.i) × (ticks_of plans s.to ≡ point q (suc of.i))
slot-ticks machine plans p s of q is = (rw (of.from, is) refl, rw (of.to, is) refl)

-- it begins at or after its action's start
pub slot-after : (machine : Machine) (plans : List Plan) (p : Plan) (s : Slot) (of : IsSlotOf machine p s) (q : Plan) → plan_of p.sheet plans ≡ Some q → slice_get q.acts of.i ≡ Some of.act → IsTimedPlan machine q → pos (point q of.i) ≤ℤ begin_at (ticks_of plans) s
slot-after machine plans p s of q is same timed =
    let ticks = slot-ticks machine plans p s of q is in
    let lasts : LastsWithin machine of.act (ticks_of plans s.from) (ticks_of plans s.to) = rw (ticks.0, ticks.1, ← add-one) (timed.lasts of.i of.act same) in
    let after = (later_slot machine (ticks_of plans) s.from s.to of.act of.action s.rule of.is of.has lasts).after in
    subst (λ n. pos n ≤ℤ begin_at (ticks_of plans) s) ticks.0 after

module _ (machine : Machine) (now : ℕ) (plans new : List Plan) (legal : IsLegal machine plans) (in_order : AllPairs IsEarlier new) (resource : ℕ) where
  -- a slot of a plan that the new schedule has at other ticks
  pub classify : (p q : Plan) → Contains plans p → plan_of p.sheet new ≡ Some q → IsTimedPlan machine q → ((i : ℕ) (act : ActId) → slice_get p.acts i ≡ Some act → slice_get q.acts i ≡ Some act)
      → ((i : ℕ) → i < p.released → (point q i ≡ point p i) × (point q (suc i) ≡ point p (suc i)))
      → ((i : ℕ) → p.released ≤ i → i < length p.acts → (now < point q i) × (now < point p i))
      → (s : Slot) → Contains (slots_of machine resource p) s → IsOld machine plans new resource s ⊎ IsAhead machine now plans new resource s
  classify p q in' planned timed acts fixed ahead s in-p =
      let of = slot_of machine resource p s in-p in
      let was = slot-ticks machine plans p s of p (plan_of-itself plans p legal.in_order in') in
      let is = slot-ticks machine new p s of q planned in
      elim (cases_lt of.i p.released) [
        | inl less ↦
            let same = fixed of.i less in
            inl (record { was = in-slots-of machine resource plans p s in' in-p; same = record { from = is.0 ∙ same.0 ∙ sym was.0; to = is.1 ∙ same.1 ∙ sym was.1 } })
        | inr le ↦
            let later = ahead of.i le (slot-within machine p s of) in
            let after-new = slot-after machine new p s of q planned (acts of.i of.act of.at) timed in
            let after-old = slot-after machine plans p s of p (plan_of-itself plans p legal.in_order in') of.at (All-contains (IsTimedPlan machine) plans p legal.timed in') in
            let new-less = later.0 in
            let old-less = later.1 in
            inr (record { now_ahead = omega (arith, ints); was_ahead = λ _. omega (arith, ints) })
      ]
