-- The points that holds and names tell are points of the plans, or own ones.
use Rattle.std.proofs.Common.{ℕ, suc, ◌+◌, ◌≤◌, ◌<◌, Bool, true, false, cond, ◌==◌, List, [], ◌∷◌, length, refl, arith, All, Contains}
use Rattle.std.proofs.lemmas.List.Elements.{All-nil, All-cons, All-append}
use Rattle.tp_machine.specs.ModuleUse.{action_at}
use Rattle.tp_machine.specs.declared.parts.ActId.{ActId}
use Rattle.tp_machine.specs.declared.parts.HoldRule.{HoldRule}
use Rattle.tp_machine.specs.declared.machine.Machine.{Machine}
use Rattle.tp_schedule.specs.Choices.{Choice}
use Rattle.tp_schedule.specs.Holders.{holds_of_act}
use Rattle.tp_schedule.specs.Spots.{Slot, Spot, slots_by, slots_from, slots_of, slots, slot_order, ticks_of}
use Rattle.tp_schedule.specs.Spots.Spot.{kept, own}
use Rattle.tp_schedule.specs.declared.parts.Plan.{Plan}
use Rattle.std.proofs.lemmas.List.Sorted.{All-permutation}
use Rattle.tp_schedule.proofs.SlotOrder.{IsPermutation-by_begin}
use Rattle.tp_schedule.proofs.Membership.{Contains-here, Contains-later}
use Rattle.tp_constraints.specs.Gaps.{IsPoint}
use Rattle.tp_constraints.specs.Suffixes.{Suffix, order_in}
use Rattle.tp_constraints.proofs.HeldSlots.{placed-All, RulesEach, OwnEach}

abbrev pub IsKnown : List Plan → ℕ → Slot → Type 0
IsKnown plans count s = IsPoint plans count s.from × IsPoint plans count s.to

-- the rules of an action between two known points
rules-known : (plans : List Plan) (count resource : ℕ) (from to : Spot) (rules : List HoldRule) → IsPoint plans count from → IsPoint plans count to → RulesEach (IsKnown plans count) resource from to rules
rules-known plans count resource from to rules a b = λ k d within test. (a, b)

slots_by-known : (plans : List Plan) (count resource : ℕ) (from to : Spot) (rules : List HoldRule) → IsPoint plans count from → IsPoint plans count to → All (IsKnown plans count) (slots_by resource from to rules)
slots_by-known plans count resource from to [] a b = All-nil (IsKnown plans count)
slots_by-known plans count resource from to (h ∷ rules) a b = go (h.resource.0 == resource) (slots_by-known plans count resource from to rules a b) where
  go : (t : Bool) → All (IsKnown plans count) (slots_by resource from to rules) → All (IsKnown plans count) (cond t (record { rule = h; from = from; to = to } ∷ slots_by resource from to rules) (slots_by resource from to rules))
  go true rest = All-cons (IsKnown plans count) (record { rule = h; from = from; to = to }) (slots_by resource from to rules) (a, b) rest
  go false rest = rest

slots_from-known : (machine : Machine) (plans : List Plan) (count resource : ℕ) (p : Plan) (n : ℕ) (acts : List ActId) → Contains plans p → n + length acts ≤ length p.acts → All (IsKnown plans count) (slots_from machine resource p.sheet n acts)
slots_from-known machine plans count resource p n [] in' le = All-nil (IsKnown plans count)
slots_from-known machine plans count resource p n (act ∷ acts) in' le =
    All-append (IsKnown plans count) (slots_by resource (kept p.sheet n) (kept p.sheet (suc n)) (holds_of_act (action_at machine act.0))) (slots_from machine resource p.sheet (suc n) acts)
    (slots_by-known plans count resource (kept p.sheet n) (kept p.sheet (suc n)) (holds_of_act (action_at machine act.0)) (p, in', refl, omega arith) (p, in', refl, omega arith))
    (slots_from-known machine plans count resource p (suc n) acts in' (omega arith))

slots-known : (machine : Machine) (plans : List Plan) (count resource : ℕ) (some : List Plan) → ((p : Plan) → Contains some p → Contains plans p) → All (IsKnown plans count) (slots machine resource some)
slots-known machine plans count resource [] within = All-nil (IsKnown plans count)
slots-known machine plans count resource (p ∷ some) within =
    All-append (IsKnown plans count) (slots_of machine resource p) (slots machine resource some) (slots_from-known machine plans count resource p 0 p.acts (within p (Contains-here p some)) (omega arith))
    (slots-known machine plans count resource some (λ q in'. within q (Contains-later p some q in')))

order-known : (machine : Machine) (plans : List Plan) (count resource : ℕ) → All (IsKnown plans count) (slot_order machine plans resource)
order-known machine plans count resource =
    All-permutation (IsKnown plans count) (slots machine resource plans) (slot_order machine plans resource) (IsPermutation-by_begin (ticks_of plans) (slots machine resource plans)) (slots-known machine plans count resource plans (λ p in'. in'))

own-known : (machine : Machine) (plans : List Plan) (resource count : ℕ) (choices : List Choice) → length choices < count → OwnEach (IsKnown plans count) machine resource choices
own-known machine plans resource count [] below = tt
own-known machine plans resource count (c ∷ choices) below =
    (rules-known plans count resource (own (suc (length choices))) (own (length choices)) (holds_of_act (action_at machine c.act.0)) below (omega arith), own-known machine plans resource count choices (omega arith))

-- the points of the holds of an order
pub held-known : (machine : Machine) (plans : List Plan) (x : Suffix) (resource : ℕ) → All (IsKnown plans (suc (length x.choices))) (order_in machine plans x resource)
held-known machine plans x resource =
    placed-All (IsKnown plans (suc (length x.choices))) machine resource (slot_order machine plans resource) x.choices (own-known machine plans resource (suc (length x.choices)) x.choices (omega arith)) (order-known machine plans (suc (length x.choices)) resource)
