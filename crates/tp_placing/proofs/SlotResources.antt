-- The slots of a resource's order are holds on that resource.
use Rattle.std.proofs.Common.{◌≡◌, ℕ, suc, Bool, true, false, cond, ◌==◌, List, [], ◌∷◌, length, refl, arith, All, insert}
use Rattle.std.proofs.lemmas.Bool.Decides.{nat_tests}
use Rattle.std.proofs.lemmas.List.Elements.{All-nil, All-cons, All-append}
use Rattle.std.proofs.lemmas.List.Sorted.{All-permutation}
use Rattle.tp_machine.specs.ModuleUse.{action_at}
use Rattle.tp_machine.specs.declared.parts.ActId.{ActId}
use Rattle.tp_machine.specs.declared.parts.HoldRule.{HoldRule}
use Rattle.tp_machine.specs.declared.machine.Machine.{Machine}
use Rattle.tp_schedule.specs.Choices.{Choice, put_places, placed}
use Rattle.tp_schedule.specs.Holders.{holds_of_act}
use Rattle.tp_schedule.specs.Spots.{Spot, Slot, slot_order, slots, slots_by, slots_from, ticks_of}
use Rattle.tp_schedule.specs.Spots.Spot.{kept, own}
use Rattle.tp_schedule.specs.declared.parts.Plan.{Plan}
use Rattle.tp_schedule.specs.declared.parts.SheetId.{SheetId}
use Rattle.tp_schedule.proofs.SlotOrder.{IsPermutation-by_begin}
use Rattle.tp_choices.proofs.Lists.{All-insert}
use Rattle.tp_constraints.specs.Suffixes.{Suffix, order_in}

abbrev pub IsOn : ℕ → Slot → Type 0
IsOn resource s = s.rule.resource.0 ≡ resource

by-on : (resource : ℕ) (from to : Spot) (rules : List HoldRule) → All (IsOn resource) (slots_by resource from to rules)
by-on resource from to [] = All-nil (IsOn resource)
by-on resource from to (rule ∷ rules) = go (rule.resource.0 == resource) refl (by-on resource from to rules) where
  go : (same : Bool) → (rule.resource.0 == resource) ≡ same → All (IsOn resource) (slots_by resource from to rules)
      → All (IsOn resource) (cond same (record { rule = rule; from = from; to = to } ∷ slots_by resource from to rules) (slots_by resource from to rules))
  go true e rest = All-cons (IsOn resource) (record { rule = rule; from = from; to = to }) (slots_by resource from to rules) (grind (arith, nat_tests)) rest
  go false e rest = rest

from-on : (machine : Machine) (resource : ℕ) (copy : SheetId) (n : ℕ) (acts : List ActId) → All (IsOn resource) (slots_from machine resource copy n acts)
from-on machine resource copy n [] = All-nil (IsOn resource)
from-on machine resource copy n (act ∷ acts) =
    All-append (IsOn resource) (slots_by resource (kept copy n) (kept copy (suc n)) (holds_of_act (action_at machine act.0))) (slots_from machine resource copy (suc n) acts)
    (by-on resource (kept copy n) (kept copy (suc n)) (holds_of_act (action_at machine act.0))) (from-on machine resource copy (suc n) acts)

slots-on : (machine : Machine) (resource : ℕ) (plans : List Plan) → All (IsOn resource) (slots machine resource plans)
slots-on machine resource [] = All-nil (IsOn resource)
slots-on machine resource (p ∷ plans) =
    All-append (IsOn resource) (slots_from machine resource p.sheet 0 p.acts) (slots machine resource plans) (from-on machine resource p.sheet 0 p.acts) (slots-on machine resource plans)

pub order-on : (machine : Machine) (plans : List Plan) (resource : ℕ) → All (IsOn resource) (slot_order machine plans resource)
order-on machine plans resource =
    All-permutation (IsOn resource) (slots machine resource plans) (slot_order machine plans resource) (IsPermutation-by_begin (ticks_of plans) (slots machine resource plans)) (slots-on machine resource plans)

places-on : (resource : ℕ) (from to : Spot) (rules : List HoldRule) (places : List ℕ) (order : List Slot) → All (IsOn resource) order → All (IsOn resource) (put_places resource from to rules places order)
places-on resource from to [] places order all = all
places-on resource from to (rule ∷ rules) [] order all = all
places-on resource from to (rule ∷ rules) (place ∷ places) order all = places-on resource from to rules places _ (go (rule.resource.0 == resource) refl) where
  go : (same : Bool) → (rule.resource.0 == resource) ≡ same → All (IsOn resource) (cond same (insert order place (record { rule = rule; from = from; to = to })) order)
  go true e = All-insert (IsOn resource) order place (record { rule = rule; from = from; to = to }) all (grind (arith, nat_tests))
  go false e = all

placed-on : (machine : Machine) (resource : ℕ) (order : List Slot) (choices : List Choice) → All (IsOn resource) order → All (IsOn resource) (placed machine resource order choices)
placed-on machine resource order [] all = all
placed-on machine resource order (c ∷ choices) all =
    places-on resource (own (suc (length choices))) (own (length choices)) (holds_of_act (action_at machine c.act.0)) c.places (placed machine resource order choices) (placed-on machine resource order choices all)

pub order-in-on : (machine : Machine) (plans : List Plan) (x : Suffix) (resource : ℕ) → All (IsOn resource) (order_in machine plans x resource)
order-in-on machine plans x resource = placed-on machine resource (slot_order machine plans resource) x.choices (order-on machine plans resource)
