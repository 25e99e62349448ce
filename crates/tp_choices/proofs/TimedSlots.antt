-- What holds of each slot of a schedule or of choices, and the slots of a schedule at other ticks or less some holds.
use Rattle.std.proofs.Common.{◌≡◌, ℕ, suc, ◌+◌, ◌<◌, Bool, true, false, cond, ◌==◌, List, [], ◌∷◌, ◌++◌, map, insert, length, filter, refl, ap, arith, Contains, All, ◌∙◌}
use Rattle.std.proofs.lemmas.List.Elements.{All-append, All-cons, All-nil}
use Rattle.tp_choices.proofs.OwnSlots.{own_slots}
use Rattle.tp_machine.specs.ModuleUse.{action_at}
use Rattle.tp_schedule.proofs.Membership.{Contains-here, Contains-later}
use Rattle.tp_schedule.specs.Choices.{Choice, put_places, placed}
use Rattle.tp_schedule.specs.Holders.{holds_of_act}
use Rattle.tp_schedule.specs.Spots.{Spot, Ticks, Slot, slots_by, slots_from, slots_of, slots}
use Rattle.tp_schedule.specs.Times.{timed_by}
use Rattle.tp_machine.specs.declared.parts.ActId.{ActId}
use Rattle.tp_machine.specs.declared.parts.HoldRule.{HoldRule}
use Rattle.tp_machine.specs.declared.machine.Machine.{Machine}
use Rattle.tp_schedule.specs.declared.parts.Plan.{Plan}
use Rattle.tp_schedule.specs.declared.parts.SheetId.{SheetId}
use Rattle.tp_schedule.specs.Spots.Spot.{kept, own}
use Rattle.tp_choices.proofs.Lists.{filter-insert}

All-slots_by : (P : Slot → Type 0) (resource : ℕ) (from to : Spot) (rules : List HoldRule) → ((rule : HoldRule) → P (record { rule = rule; from = from; to = to })) → All P (slots_by resource from to rules)
All-slots_by P resource from to [] each = All-nil P
All-slots_by P resource from to (h ∷ rules) each = go (h.resource.0 == resource) (All-slots_by P resource from to rules each) where
  go : (b : Bool) → All P (slots_by resource from to rules) → All P (cond b (record { rule = h; from = from; to = to } ∷ slots_by resource from to rules) (slots_by resource from to rules))
  go true rest = All-cons P (record { rule = h; from = from; to = to }) (slots_by resource from to rules) (each h) rest
  go false rest = rest

-- the holds of a list of actions, by the points that they lie between
pub All-slots_from : (P : Slot → Type 0) (machine : Machine) (resource : ℕ) (copy : SheetId) (n : ℕ) (acts : List ActId)
    → ((i j : ℕ) → j ≡ n + i → i < length acts → (rule : HoldRule) → P (record { rule = rule; from = kept copy j; to = kept copy (suc j) })) → All P (slots_from machine resource copy n acts)
All-slots_from P machine resource copy n [] each = All-nil P
All-slots_from P machine resource copy n (act ∷ acts) each =
    All-append P (slots_by resource (kept copy n) (kept copy (suc n)) (holds_of_act (action_at machine act.0))) (slots_from machine resource copy (suc n) acts)
    (All-slots_by P resource (kept copy n) (kept copy (suc n)) (holds_of_act (action_at machine act.0)) (λ rule. each 0 n (omega arith) (omega arith) rule))
    (All-slots_from P machine resource copy (suc n) acts (λ i j e within rule. each (suc i) j (omega arith) (omega arith) rule))

pub All-own_slots : (P : Slot → Type 0) (machine : Machine) (resource : ℕ) (choices : List Choice)
    → ((n : ℕ) → n < length choices → (rule : HoldRule) → P (record { rule = rule; from = own (suc n); to = own n })) → All P (own_slots machine resource choices)
All-own_slots P machine resource [] each = All-nil P
All-own_slots P machine resource (c ∷ choices) each =
    All-append P (slots_by resource (own (suc (length choices))) (own (length choices)) (holds_of_act (action_at machine c.act.0))) (own_slots machine resource choices)
    (All-slots_by P resource (own (suc (length choices))) (own (length choices)) (holds_of_act (action_at machine c.act.0)) (λ rule. each (length choices) (omega arith) rule))
    (All-own_slots P machine resource choices (λ n within rule. each n (omega arith) rule))

pub All-slots : (P : Slot → Type 0) (machine : Machine) (resource : ℕ) (plans : List Plan)
    → ((p : Plan) → Contains plans p → (i : ℕ) → i < length p.acts → (rule : HoldRule) → P (record { rule = rule; from = kept p.sheet i; to = kept p.sheet (suc i) })) → All P (slots machine resource plans)
All-slots P machine resource [] each = All-nil P
All-slots P machine resource (p ∷ plans) each =
    All-append P (slots_of machine resource p) (slots machine resource plans)
    (All-slots_from P machine resource p.sheet 0 p.acts (λ i j e within rule. let same : j ≡ i = omega arith in rw same (each p (Contains-here p plans) i within rule)))
    (All-slots P machine resource plans (λ q in'. each q (Contains-later p plans q in')))

pub slots-timed_by : (machine : Machine) (resource : ℕ) (t : Ticks) (plans : List Plan) → slots machine resource (map (timed_by t) plans) ≡ slots machine resource plans
slots-timed_by machine resource t [] = refl
slots-timed_by machine resource t (p ∷ plans) = ap (λ xs. slots_of machine resource p ++ xs) (slots-timed_by machine resource t plans)

filter-put_places : (p : Slot → Bool) (f : Slot → Slot) (resource : ℕ) (from to : Spot) (rules : List HoldRule) (places : List ℕ) (order : List Slot)
    → ((rule : HoldRule) → p (f (record { rule = rule; from = from; to = to })) ≡ false) → filter p (map f (put_places resource from to rules places order)) ≡ filter p (map f order)
filter-put_places p f resource from to [] places order new = refl
filter-put_places p f resource from to (h ∷ rules) [] order new = refl
filter-put_places p f resource from to (h ∷ rules) (place ∷ places) order new = go (h.resource.0 == resource) (λ o. filter-put_places p f resource from to rules places o new) where
  go : (b : Bool) → ((o : List Slot) → filter p (map f (put_places resource from to rules places o)) ≡ filter p (map f o))
      → filter p (map f (put_places resource from to rules places (cond b (insert order place (record { rule = h; from = from; to = to })) order))) ≡ filter p (map f order)
  go true rest = rest (insert order place (record { rule = h; from = from; to = to })) ∙ filter-insert p f order place (record { rule = h; from = from; to = to }) (new h)
  go false rest = rest order

pub filter-placed : (p : Slot → Bool) (f : Slot → Slot) (machine : Machine) (resource : ℕ) (order : List Slot) (choices : List Choice)
    → ((n : ℕ) → n < length choices → (rule : HoldRule) → p (f (record { rule = rule; from = own (suc n); to = own n })) ≡ false) → filter p (map f (placed machine resource order choices)) ≡ filter p (map f order)
filter-placed p f machine resource order [] new = refl
filter-placed p f machine resource order (c ∷ choices) new =
    filter-put_places p f resource (own (suc (length choices))) (own (length choices)) (holds_of_act (action_at machine c.act.0)) c.places (placed machine resource order choices) (λ rule. new (length choices) (omega arith) rule)
    ∙ filter-placed p f machine resource order choices (λ n within rule. new n (omega arith) rule)
