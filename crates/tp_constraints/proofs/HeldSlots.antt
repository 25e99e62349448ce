-- The holds of a schedule and of choices are of the machine's resources, and are sound where their actions last within
-- their durations.
use Rattle.std.proofs.Common.{◌≡◌, ℕ, suc, ◌+◌, ◌≤◌, ◌<◌, Bool, true, false, cond, ◌==◌, List, [], ◌∷◌, length, refl, arith, All, Contains, get_or, insert, Option, Some, None, IsSomeAnd}
use Rattle.std.specs.Prelude.{slice_get}
use Rattle.std.proofs.lemmas.List.Elements.{All-nil, All-cons, All-head, All-tail, All-append, Contains-get_or}
use Rattle.std.proofs.lemmas.List.Sorted.{All-permutation}
use Rattle.std.proofs.lemmas.Int.{ints}
use Rattle.std.proofs.lemmas.Bool.Decides.{nat_tests}
use Rattle.tp_machine.specs.ModuleUse.{action_at}
use Rattle.tp_machine.specs.declared.parts.Action.{Action}
use Rattle.tp_machine.specs.declared.parts.ActId.{ActId}
use Rattle.tp_machine.specs.declared.parts.HoldRule.{HoldRule}
use Rattle.tp_machine.specs.declared.machine.Machine.{Machine}
use Rattle.tp_schedule.specs.Holders.{holds_of_act}
use Rattle.tp_schedule.specs.Plans.{LastsWithin}
use Rattle.tp_schedule.specs.declared.parts.Plan.{Plan}
use Rattle.tp_schedule.specs.declared.parts.SheetId.{SheetId}
use Rattle.tp_schedule.specs.Spots.{Spot, Ticks, Slot, slots_by, slots_from, slots_of, slots, slot_order, ticks_of, IsSoundSlot}
use Rattle.tp_schedule.specs.Spots.Spot.{kept, own}
use Rattle.tp_schedule.specs.Times.{at}
use Rattle.tp_schedule.specs.Choices.{Choice, put_places, placed, ChoicesLast}
use Rattle.tp_schedule.proofs.LegalOrders.{sound_plans}
use Rattle.tp_schedule.proofs.SlotOrder.{IsPermutation-by_begin}
use Rattle.tp_schedule.proofs.PutFacts.{All-insert}
use Rattle.tp_machine.proofs.MachineFacts.{is_machine}

-- what holds of each hold on a resource, by the rules of an action between two points
abbrev pub RulesEach : (Slot → Type 0) → ℕ → Spot → Spot → List HoldRule → Type 0
RulesEach P resource from to rules = All (λ rule. (rule.resource.0 == resource) ≡ true → P (record { rule = rule; from = from; to = to })) rules

pub put_places-All : (P : Slot → Type 0) (resource : ℕ) (from to : Spot) (rules : List HoldRule) (places : List ℕ) (order : List Slot) → RulesEach P resource from to rules → All P order → All P (put_places resource from to rules places order)
put_places-All P resource from to [] places order each all = all
put_places-All P resource from to (rule ∷ rules) [] order each all = all
put_places-All P resource from to (rule ∷ rules) (place ∷ places) order each all =
    put_places-All P resource from to rules places (cond (rule.resource.0 == resource) (insert order place (record { rule = rule; from = from; to = to })) order)
    (All-tail (λ rule. (rule.resource.0 == resource) ≡ true → P (record { rule = rule; from = from; to = to })) rule rules each) (go (rule.resource.0 == resource) refl) where
      go : (b : Bool) → (rule.resource.0 == resource) ≡ b → All P (cond b (insert order place (record { rule = rule; from = from; to = to })) order)
      go true e = All-insert P order place (record { rule = rule; from = from; to = to }) all (All-head (λ rule. (rule.resource.0 == resource) ≡ true → P (record { rule = rule; from = from; to = to })) rule rules each e)
      go false e = all

-- and by those of the choices
abbrev pub OwnEach : (Slot → Type 0) → Machine → ℕ → List Choice → Type 0
OwnEach P machine resource [] = Unit {0}
OwnEach P machine resource (c ∷ choices) = RulesEach P resource (own (suc (length choices))) (own (length choices)) (holds_of_act (action_at machine c.act.0)) × OwnEach P machine resource choices

pub placed-All : (P : Slot → Type 0) (machine : Machine) (resource : ℕ) (order : List Slot) (choices : List Choice) → OwnEach P machine resource choices → All P order → All P (placed machine resource order choices)
placed-All P machine resource order [] each all = all
placed-All P machine resource order (c ∷ choices) each all =
    put_places-All P resource (own (suc (length choices))) (own (length choices)) (holds_of_act (action_at machine c.act.0)) c.places (placed machine resource order choices) each.0 (placed-All P machine resource order choices each.1 all)

slots_by-All : (P : Slot → Type 0) (resource : ℕ) (from to : Spot) (rules : List HoldRule) → RulesEach P resource from to rules → All P (slots_by resource from to rules)
slots_by-All P resource from to [] each = All-nil P
slots_by-All P resource from to (h ∷ rules) each = go (h.resource.0 == resource) refl (slots_by-All P resource from to rules (All-tail (λ rule. (rule.resource.0 == resource) ≡ true → P (record { rule = rule; from = from; to = to })) h rules each)) where
  go : (b : Bool) → (h.resource.0 == resource) ≡ b → All P (slots_by resource from to rules) → All P (cond b (record { rule = h; from = from; to = to } ∷ slots_by resource from to rules) (slots_by resource from to rules))
  go true e rest = All-cons P (record { rule = h; from = from; to = to }) (slots_by resource from to rules) (All-head (λ rule. (rule.resource.0 == resource) ≡ true → P (record { rule = rule; from = from; to = to })) h rules each e) rest
  go false e rest = rest

-- holds are of resources that the machine has
abbrev pub IsOn : Machine → ℕ → Slot → Type 0
IsOn machine resource s = resource < length machine.resources

on-rules : (machine : Machine) (resource n : ℕ) (from to : Spot) → RulesEach (IsOn machine resource) resource from to (holds_of_act (action_at machine n))
on-rules machine resource n from to = go (action_at machine n) refl where
  go : (o : Option Action) → action_at machine n ≡ o → RulesEach (IsOn machine resource) resource from to (holds_of_act o)
  go None e = λ k d within test. absurd (omega (arith, within))
  go (Some a) e = λ k d within test.
      let below = (is_machine machine).known n a e (get_or a.holds k d) (Contains-get_or a.holds k d within) in
      let same : (get_or a.holds k d).resource.0 ≡ resource = grind (arith, nat_tests) in
      omega (arith, below, same)

slots_from-on : (machine : Machine) (resource : ℕ) (copy : SheetId) (n : ℕ) (acts : List ActId) → All (IsOn machine resource) (slots_from machine resource copy n acts)
slots_from-on machine resource copy n [] = All-nil (IsOn machine resource)
slots_from-on machine resource copy n (act ∷ acts) =
    All-append (IsOn machine resource) (slots_by resource (kept copy n) (kept copy (suc n)) (holds_of_act (action_at machine act.0))) (slots_from machine resource copy (suc n) acts)
    (slots_by-All (IsOn machine resource) resource (kept copy n) (kept copy (suc n)) (holds_of_act (action_at machine act.0)) (on-rules machine resource act.0 (kept copy n) (kept copy (suc n))))
    (slots_from-on machine resource copy (suc n) acts)

slots-on : (machine : Machine) (resource : ℕ) (plans : List Plan) → All (IsOn machine resource) (slots machine resource plans)
slots-on machine resource [] = All-nil (IsOn machine resource)
slots-on machine resource (p ∷ plans) = All-append (IsOn machine resource) (slots_of machine resource p) (slots machine resource plans) (slots_from-on machine resource p.sheet 0 p.acts) (slots-on machine resource plans)

pub order-on : (machine : Machine) (resource : ℕ) (plans : List Plan) → All (IsOn machine resource) (slot_order machine plans resource)
order-on machine resource plans =
    All-permutation (IsOn machine resource) (slots machine resource plans) (slot_order machine plans resource) (IsPermutation-by_begin (ticks_of plans) (slots machine resource plans)) (slots-on machine resource plans)

pub own-on : (machine : Machine) (resource : ℕ) (choices : List Choice) → OwnEach (IsOn machine resource) machine resource choices
own-on machine resource [] = tt
own-on machine resource (c ∷ choices) = (on-rules machine resource c.act.0 (own (suc (length choices))) (own (length choices)), own-on machine resource choices)

pub none-on : (machine : Machine) (resource : ℕ) (xs : List Slot) → All (IsOn machine resource) xs → length machine.resources ≤ resource → xs ≡ []
none-on machine resource [] all out = refl
none-on machine resource (x ∷ xs) all out = let h = All-head (IsOn machine resource) x xs all in absurd (omega (arith, h))

-- holds are sound where their actions last within their ranges
rules-sound : (machine : Machine) (t : Ticks) (resource : ℕ) (from to : Spot) (act : ActId) → LastsWithin machine act (t from) (t to) → RulesEach (IsSoundSlot t) resource from to (holds_of_act (action_at machine act.0))
rules-sound machine t resource from to act lasts = go (action_at machine act.0) refl lasts where
  go : (o : Option Action) → action_at machine act.0 ≡ o → IsSomeAnd o (λ a. (t from + a.least ≤ t to) × (t to ≤ t from + a.most)) → RulesEach (IsSoundSlot t) resource from to (holds_of_act o)
  go None e lasts' = absurd lasts'
  go (Some a) e lasts' = λ k d within test.
      let sound = (is_machine machine).sound act.0 a e (get_or a.holds k d) (Contains-get_or a.holds k d within) (t from) (t to) lasts'.0 lasts'.1 in
      let late = sound.1 in
      record { long = sound.0; late = omega (arith, ints) }

pub own-sound : (machine : Machine) (t : Ticks) (resource : ℕ) (choices : List Choice) → ChoicesLast machine t choices → OwnEach (IsSoundSlot t) machine resource choices
own-sound machine t resource [] lasts = tt
own-sound machine t resource (c ∷ choices) lasts =
    (rules-sound machine t resource (own (suc (length choices))) (own (length choices)) c.act lasts.0, own-sound machine t resource choices lasts.1)

-- actions of the plans last as the ticks say
abbrev pub PlansLast : Machine → List Plan → Ticks → Type 0
PlansLast machine plans t = (p : Plan) → Contains plans p → (i : ℕ) (act : ActId) → slice_get p.acts i ≡ Some act → LastsWithin machine act (at t p i) (at t p (suc i))

pub order-sound : (machine : Machine) (t : Ticks) (resource : ℕ) (plans : List Plan) → PlansLast machine plans t → All (IsSoundSlot t) (slot_order machine plans resource)
order-sound machine t resource plans lasts =
    All-permutation (IsSoundSlot t) (slots machine resource plans) (slot_order machine plans resource) (IsPermutation-by_begin (ticks_of plans) (slots machine resource plans))
    (sound_plans machine (is_machine machine) t resource plans (λ k d within i j act e is. let same : j ≡ i = omega arith in rw same (lasts (get_or plans k d) (Contains-get_or plans k d within) i act is)))

pub placed-sound : (machine : Machine) (t : Ticks) (resource : ℕ) (plans : List Plan) (choices : List Choice) → PlansLast machine plans t → ChoicesLast machine t choices → All (IsSoundSlot t) (placed machine resource (slot_order machine plans resource) choices)
placed-sound machine t resource plans choices lasts own_lasts =
    placed-All (IsSoundSlot t) machine resource (slot_order machine plans resource) choices (own-sound machine t resource choices own_lasts) (order-sound machine t resource plans lasts)
