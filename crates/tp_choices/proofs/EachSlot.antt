-- Each slot of a schedule is the hold by a rule of one of its plans' actions, between two points of this plan. So it
-- begins at or after its action's start.
use Rattle.std.proofs.Common.{◌≡◌, ℕ, suc, ◌+◌, ◌≤◌, Bool, true, false, cond, ◌==◌, List, [], ◌∷◌, refl, arith, Contains, All, get_or, Option, Some, None, slice_get}
use Rattle.std.specs.Prelude.{pos, ◌≤ℤ◌, ◌<ℤ◌}
use Rattle.std.proofs.lemmas.List.Elements.{All-append, All-cons, All-head, All-tail, All-nil, Contains-get_or}
use Rattle.tp_machine.proofs.MachineFacts.{is_machine}
use Rattle.tp_machine.specs.ModuleUse.{action_at}
use Rattle.tp_machine.specs.declared.parts.ActId.{ActId}
use Rattle.tp_machine.specs.declared.parts.Action.{Action}
use Rattle.tp_machine.specs.declared.parts.HoldRule.{HoldRule}
use Rattle.tp_machine.specs.declared.machine.Machine.{Machine}
use Rattle.tp_schedule.proofs.Membership.{Contains-here, Contains-later}
use Rattle.tp_schedule.specs.Holders.{holds_of_act}
use Rattle.tp_schedule.specs.Plans.{LastsWithin}
use Rattle.tp_schedule.specs.Spots.{Spot, Ticks, Slot, begin_at, end_at, slots_by, slots_from, slots_of, slots}
use Rattle.tp_schedule.specs.Spots.Spot.{kept}
use Rattle.tp_schedule.specs.declared.parts.Plan.{Plan}
use Rattle.tp_schedule.specs.declared.parts.SheetId.{SheetId}

each_by : (P : Slot → Type 0) (resource : ℕ) (from to : Spot) (rules : List HoldRule) → All (λ rule. P (record { rule = rule; from = from; to = to })) rules → All P (slots_by resource from to rules)
each_by P resource from to [] each = All-nil P
each_by P resource from to (h ∷ rules) each = go (h.resource.0 == resource) (each_by P resource from to rules (All-tail (λ rule. P (record { rule = rule; from = from; to = to })) h rules each)) where
  go : (b : Bool) → All P (slots_by resource from to rules) → All P (cond b (record { rule = h; from = from; to = to } ∷ slots_by resource from to rules) (slots_by resource from to rules))
  go true rest = All-cons P (record { rule = h; from = from; to = to }) (slots_by resource from to rules) (All-head (λ rule. P (record { rule = rule; from = from; to = to })) h rules each) rest
  go false rest = rest

-- what holds of each hold by a rule of the actions
pub each_from : (P : Slot → Type 0) (machine : Machine) (resource : ℕ) (copy : SheetId) (n : ℕ) (acts : List ActId)
    → ((i j : ℕ) → j ≡ n + i → (act : ActId) → slice_get acts i ≡ Some act → (a : Action) → action_at machine act.0 ≡ Some a → (rule : HoldRule) → Contains a.holds rule → P (record { rule = rule; from = kept copy j; to = kept copy (suc j) }))
    → All P (slots_from machine resource copy n acts)
each_from P machine resource copy n [] each = All-nil P
each_from P machine resource copy n (act ∷ acts) each =
    All-append P (slots_by resource (kept copy n) (kept copy (suc n)) (holds_of_act (action_at machine act.0))) (slots_from machine resource copy (suc n) acts)
    (each_by P resource (kept copy n) (kept copy (suc n)) (holds_of_act (action_at machine act.0)) (go (action_at machine act.0) refl))
    (each_from P machine resource copy (suc n) acts (λ i j e b is. each (suc i) j (omega arith) b is)) where
      go : (o : Option Action) → action_at machine act.0 ≡ o → All (λ rule. P (record { rule = rule; from = kept copy n; to = kept copy (suc n) })) (holds_of_act o)
      go None e = All-nil (λ rule. P (record { rule = rule; from = kept copy n; to = kept copy (suc n) }))
      go (Some a) e = λ k d within. each 0 n (omega arith) act refl a e (get_or a.holds k d) (Contains-get_or a.holds k d within)

pub each_slot : (P : Slot → Type 0) (machine : Machine) (resource : ℕ) (plans : List Plan)
    → ((p : Plan) → Contains plans p → (i : ℕ) (act : ActId) → slice_get p.acts i ≡ Some act → (a : Action) → action_at machine act.0 ≡ Some a → (rule : HoldRule) → Contains a.holds rule → P (record { rule = rule; from = kept p.sheet i; to = kept p.sheet (suc i) }))
    → All P (slots machine resource plans)
each_slot P machine resource [] each = All-nil P
each_slot P machine resource (p ∷ plans) each =
    All-append P (slots_of machine resource p) (slots machine resource plans)
    (each_from P machine resource p.sheet 0 p.acts (λ i j e act is. let same : j ≡ i = omega arith in rw same (each p (Contains-here p plans) i act is)))
    (each_slot P machine resource plans (λ q in'. each q (Contains-later p plans q in')))

-- what holds of the slots of each plan
pub by_plan : (P : Slot → Type 0) (machine : Machine) (resource : ℕ) (plans : List Plan) → ((p : Plan) → Contains plans p → All P (slots_of machine resource p)) → All P (slots machine resource plans)
by_plan P machine resource [] each = All-nil P
by_plan P machine resource (p ∷ plans) each = All-append P (slots_of machine resource p) (slots machine resource plans) (each p (Contains-here p plans)) (by_plan P machine resource plans (λ q in'. each q (Contains-later p plans q in')))

-- a hold of an action that lasts within its durations is not empty, and begins at or after the action's start
pub record IsLater (t : Ticks) (s : Slot) : Type 0 where
  pub long : begin_at t s <ℤ end_at t s
  pub after : pos (t s.from) ≤ℤ begin_at t s

pub later_slot : (machine : Machine) (t : Ticks) (from to : Spot) (act : ActId) (a : Action) (rule : HoldRule) → action_at machine act.0 ≡ Some a → Contains a.holds rule → LastsWithin machine act (t from) (t to) → IsLater t (record { rule = rule; from = from; to = to })
later_slot machine t from to act a rule e in' lasts =
    let within : (t from + a.least ≤ t to) × (t to ≤ t from + a.most) = rw e at lasts in
    let sound = (is_machine machine).sound act.0 a e rule in' (t from) (t to) within.0 within.1 in
    record { long = sound.0; after = sound.1 }
