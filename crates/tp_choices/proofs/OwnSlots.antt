-- The slots of choices, those of the plan that the choices become, and those of a schedule with or without a plan.
use Rattle.std.proofs.Common.{◌≡◌, ℕ, suc, ◌+◌, ◌-◌, Bool, true, false, cond, not, ◌==◌, List, [], ◌∷◌, ◌++◌, map, insert, length, refl, ap, sym, arith, ◌∙◌, subst, get_or, Some, IsTrue, append_assoc}
use Rattle.std.specs.Prelude.{IsPermutation}
use Rattle.std.proofs.lemmas.List.{map-append}
use Rattle.std.proofs.lemmas.List.Sorted.{IsPermutation-refl, IsPermutation-sym, IsPermutation-trans, IsPermutation-append_right, IsPermutation-insert, IsPermutation-middle}
use Rattle.tp_machine.specs.ModuleUse.{action_at}
use Rattle.tp_schedule.proofs.CopyFacts.{InOrder, before-not_same', same_copy-is}
use Rattle.tp_schedule.proofs.Pairs.{AllPairs-head, AllPairs-tail}
use Rattle.tp_schedule.specs.Answers.{kept_acts, acts_in}
use Rattle.tp_schedule.specs.Choices.{Choice, acts_of, put_places, placed, AreWithin, HavePlaces}
use Rattle.tp_schedule.specs.Completions.{settled}
use Rattle.tp_schedule.specs.Holders.{holds_of_act}
use Rattle.tp_schedule.specs.Plans.{plan_of, without, put_plan, is_same_copy, is_before}
use Rattle.tp_schedule.specs.Spots.{Spot, Slot, slots_by, slots_from, slots_of, slots}
use Rattle.tp_machine.specs.declared.parts.ActId.{ActId}
use Rattle.tp_machine.specs.declared.parts.HoldRule.{HoldRule}
use Rattle.tp_machine.specs.declared.machine.Machine.{Machine}
use Rattle.tp_schedule.specs.declared.parts.Plan.{Plan}
use Rattle.tp_schedule.specs.declared.parts.SheetId.{SheetId}
use Rattle.tp_schedule.specs.Spots.Spot.{kept, own}
use Rattle.tp_choices.proofs.Lists.{filter-all, swap_in}

-- the holds of choices on a resource
abbrev pub own_slots : Machine → ℕ → List Choice → List Slot
own_slots machine resource [] = []
own_slots machine resource (c ∷ choices) =
    slots_by resource (own (suc (length choices))) (own (length choices)) (holds_of_act (action_at machine c.act.0)) ++ own_slots machine resource choices

IsPermutation-put_places : (resource : ℕ) (from to : Spot) (orders : ℕ → List Slot) (rules : List HoldRule) (places : List ℕ) (order : List Slot) → AreWithin orders rules places
    → IsPermutation (slots_by resource from to rules ++ order) (put_places resource from to rules places order)
IsPermutation-put_places resource from to orders [] places order within = IsPermutation-refl order
IsPermutation-put_places resource from to orders (h ∷ rules) [] order within = absurd within
IsPermutation-put_places resource from to orders (h ∷ rules) (place ∷ places) order within =
    go (h.resource.0 == resource) (λ o. IsPermutation-put_places resource from to orders rules places o within.1) where
      go : (b : Bool) → ((o : List Slot) → IsPermutation (slots_by resource from to rules ++ o) (put_places resource from to rules places o))
          → IsPermutation (cond b (record { rule = h; from = from; to = to } ∷ slots_by resource from to rules) (slots_by resource from to rules) ++ order)
          (put_places resource from to rules places (cond b (insert order place (record { rule = h; from = from; to = to })) order))
      go true rest =
          let x : Slot = record { rule = h; from = from; to = to } in
          IsPermutation-trans (x ∷ (slots_by resource from to rules ++ order)) (slots_by resource from to rules ++ insert order place x) (put_places resource from to rules places (insert order place x))
          (IsPermutation-trans (x ∷ (slots_by resource from to rules ++ order)) (slots_by resource from to rules ++ x ∷ order) (slots_by resource from to rules ++ insert order place x)
          (IsPermutation-sym (slots_by resource from to rules ++ x ∷ order) (x ∷ (slots_by resource from to rules ++ order)) (IsPermutation-middle (slots_by resource from to rules) x order))
          (IsPermutation-append_right (slots_by resource from to rules) (x ∷ order) (insert order place x) (IsPermutation-insert order place x)))
          (rest (insert order place x))
      go false rest = rest order

-- the placed order has the kept holds and those of the choices
pub IsPermutation-placed : (machine : Machine) (resource : ℕ) (orders : ℕ → List Slot) (choices : List Choice) → HavePlaces machine orders choices
    → IsPermutation (own_slots machine resource choices ++ orders resource) (placed machine resource (orders resource) choices)
IsPermutation-placed machine resource orders [] have = IsPermutation-refl (orders resource)
IsPermutation-placed machine resource orders (c ∷ choices) have =
    let here = slots_by resource (own (suc (length choices))) (own (length choices)) (holds_of_act (action_at machine c.act.0)) in
    let rest = IsPermutation-placed machine resource orders choices have.1 in
    let put = IsPermutation-put_places resource (own (suc (length choices))) (own (length choices)) (λ r. placed machine r (orders r) choices) (holds_of_act (action_at machine c.act.0)) c.places (placed machine resource (orders resource) choices) have.0 in
    rw (append_assoc {A = Slot}) (IsPermutation-trans (here ++ (own_slots machine resource choices ++ orders resource)) (here ++ placed machine resource (orders resource) choices) (placed machine resource (orders resource) (c ∷ choices))
    (IsPermutation-append_right here (own_slots machine resource choices ++ orders resource) (placed machine resource (orders resource) choices) rest) put)

-- a hold of the asked plan
abbrev pub settled_slot : SheetId → ℕ → Slot → Slot
settled_slot copy total s = record { rule = s.rule; from = settled copy total s.from; to = settled copy total s.to }

pub map-slots_by : (copy : SheetId) (total resource : ℕ) (from to : Spot) (rules : List HoldRule) → map (settled_slot copy total) (slots_by resource from to rules) ≡ slots_by resource (settled copy total from) (settled copy total to) rules
map-slots_by copy total resource from to [] = refl
map-slots_by copy total resource from to (h ∷ rules) = go (h.resource.0 == resource) (map-slots_by copy total resource from to rules) where
  go : (b : Bool) → map (settled_slot copy total) (slots_by resource from to rules) ≡ slots_by resource (settled copy total from) (settled copy total to) rules
      → map (settled_slot copy total) (cond b (record { rule = h; from = from; to = to } ∷ slots_by resource from to rules) (slots_by resource from to rules))
      ≡ cond b (record { rule = h; from = settled copy total from; to = settled copy total to } ∷ slots_by resource (settled copy total from) (settled copy total to) rules) (slots_by resource (settled copy total from) (settled copy total to) rules)
  go true e = ap (λ xs. record { rule = h; from = settled copy total from; to = settled copy total to } ∷ xs) e
  go false e = e

-- the choices' holds are the new holds of the asked plan
pub map-own_slots : (machine : Machine) (copy : SheetId) (total resource n : ℕ) (choices : List Choice) → n + length choices ≡ total → map (settled_slot copy total) (own_slots machine resource choices) ≡ slots_from machine resource copy n (acts_of choices)
map-own_slots machine copy total resource n [] e = refl
map-own_slots machine copy total resource n (c ∷ choices) e =
    let rest = map-own_slots machine copy total resource (suc n) choices (omega arith) in
    let first : total - suc (length choices) ≡ n = omega arith in
    let second : total - length choices ≡ suc n = omega arith in
    rw (
      map-append (settled_slot copy total) (slots_by resource (own (suc (length choices))) (own (length choices)) (holds_of_act (action_at machine c.act.0))) (own_slots machine resource choices),
      map-slots_by copy total resource (own (suc (length choices))) (own (length choices)) (holds_of_act (action_at machine c.act.0)),
      rest,
      first,
      second,
    ) refl

-- the holds of a list of actions, and of a list after it
pub slots_from-append : (machine : Machine) (resource : ℕ) (copy : SheetId) (n : ℕ) (xs ys : List ActId) → slots_from machine resource copy n (xs ++ ys) ≡ slots_from machine resource copy n xs ++ slots_from machine resource copy (n + length xs) ys
slots_from-append machine resource copy n [] ys = ap (λ k. slots_from machine resource copy k ys) (omega arith)
slots_from-append machine resource copy n (x ∷ xs) ys =
    let rest = slots_from-append machine resource copy (suc n) xs ys in
    let same : suc n + length xs ≡ n + suc (length xs) = omega arith in
    let here = slots_by resource (kept copy n) (kept copy (suc n)) (holds_of_act (action_at machine x.0)) in
    ap (λ zs. here ++ zs) (rest ∙ ap (λ k. slots_from machine resource copy (suc n) xs ++ slots_from machine resource copy k ys) same)
    ∙ sym (append_assoc here (slots_from machine resource copy (suc n) xs) (slots_from machine resource copy (n + suc (length xs)) ys))

-- a plan put in its place adds its holds
pub slots-put_plan : (machine : Machine) (resource : ℕ) (p : Plan) (plans : List Plan) → IsPermutation (slots machine resource (put_plan p plans)) (slots_of machine resource p ++ slots machine resource plans)
slots-put_plan machine resource p [] = IsPermutation-refl (slots_of machine resource p ++ [])
slots-put_plan machine resource p (q ∷ plans) = go (is_before p.sheet q.sheet) (slots-put_plan machine resource p plans) where
  go : (b : Bool) → IsPermutation (slots machine resource (put_plan p plans)) (slots_of machine resource p ++ slots machine resource plans)
      → IsPermutation (slots machine resource (cond b (p ∷ q ∷ plans) (q ∷ put_plan p plans))) (slots_of machine resource p ++ (slots_of machine resource q ++ slots machine resource plans))
  go true rest = IsPermutation-refl (slots_of machine resource p ++ (slots_of machine resource q ++ slots machine resource plans))
  go false rest = swap_in (slots_of machine resource q) (slots machine resource (put_plan p plans)) (slots_of machine resource p) (slots machine resource plans) rest

-- the holds of a schedule are those of a copy and those of all others
pub slots-without : (machine : Machine) (resource : ℕ) (copy : SheetId) (plans : List Plan) → InOrder plans → IsPermutation (slots machine resource plans) (slots_from machine resource copy 0 (kept_acts copy plans) ++ slots machine resource (without copy plans))
slots-without machine resource copy [] in_order = IsPermutation-refl []
slots-without machine resource copy (p ∷ plans) in_order =
    go (is_same_copy p.sheet copy) refl (slots-without machine resource copy plans (AllPairs-tail (λ a b. IsTrue (is_before a.sheet b.sheet)) p plans in_order)) where
      go : (b : Bool) → is_same_copy p.sheet copy ≡ b → IsPermutation (slots machine resource plans) (slots_from machine resource copy 0 (kept_acts copy plans) ++ slots machine resource (without copy plans))
          → IsPermutation (slots_of machine resource p ++ slots machine resource plans)
          (slots_from machine resource copy 0 (acts_in (cond b (Some p) (plan_of copy plans))) ++ slots machine resource (cond (not b) (p ∷ without copy plans) (without copy plans)))
      go true e rest =
          let same : p.sheet ≡ copy = same_copy-is p.sheet copy e in
          let alone : without copy plans ≡ plans = filter-all (λ q. not (is_same_copy q.sheet copy)) plans
          (λ k d within. ap not (subst (λ c. is_same_copy (get_or plans k d).sheet c ≡ false) same (before-not_same' p.sheet (get_or plans k d).sheet (AllPairs-head (λ a b. IsTrue (is_before a.sheet b.sheet)) p plans in_order k d within)))) in
          rw (alone, ← same) (IsPermutation-refl (slots_of machine resource p ++ slots machine resource plans))
      go false e rest = swap_in (slots_of machine resource p) (slots machine resource plans) (slots_from machine resource copy 0 (kept_acts copy plans)) (slots machine resource (without copy plans)) rest
