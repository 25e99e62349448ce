-- The points of plans and of choices, ticks for them, the holds that lie between two of them, and the order of the
-- holds on a resource by their times.
use Rattle.std.specs.Prelude.{ℕ, suc, ◌==◌, List, [], ◌∷◌, ◌++◌, flat_map, map, ℤ, pos, ◌+ℤ◌, int_lt, ◌≤ℤ◌, ◌<ℤ◌, ◌⊎◌, Option, Some, None, if◌then◌else◌}
use Rattle.tp_machine.specs.Modes.{gap_between}
use Rattle.tp_machine.specs.ModuleUse.{action_at, begin_of, end_of}
use Rattle.tp_machine.specs.declared.parts.ActId.{ActId}
use Rattle.tp_machine.specs.declared.parts.HoldRule.{HoldRule}
use Rattle.tp_machine.specs.declared.machine.Machine.{Machine}
use Rattle.tp_schedule.specs.Holders.{holds_of_act}
use Rattle.tp_schedule.specs.Plans.{plan_of, point}
use Rattle.tp_schedule.specs.declared.parts.Hold.{Hold}
use Rattle.tp_schedule.specs.declared.parts.Plan.{Plan}
use Rattle.tp_schedule.specs.declared.parts.SheetId.{SheetId}

-- a point of a kept plan, by its copy and number, or an own point of an asked copy's choices: the start of the nth
-- choice from the end, or for 0 the end
pub data Spot : Type 0 where
  kept : SheetId → ℕ → Spot
  own : ℕ → Spot

-- a tick for each point
abbrev pub Ticks : Type 0
Ticks = Spot → ℕ

-- a slot: the hold by a rule of an action that runs from one point to another
pub record Slot : Type 0 where
  pub rule : HoldRule
  pub from : Spot
  pub to : Spot

abbrev pub begin_at : Ticks → Slot → ℤ
begin_at t s = begin_of s.rule (t s.from) (t s.to)

abbrev pub end_at : Ticks → Slot → ℤ
end_at t s = end_of s.rule (t s.from) (t s.to)

-- at these ticks, and on a resource with this gap, the first hold ends by the begin of the second, or the gap before it
-- where their modes differ
abbrev pub IsApart : ℕ → Ticks → Slot → Slot → Type 0
IsApart gap t x y = (end_at t x +ℤ pos (gap_between gap x.rule y.rule)) ≤ℤ begin_at t y

-- whichever is earlier stands so before the other
abbrev pub AreApart : ℕ → Ticks → Slot → Slot → Type 0
AreApart gap t x y = IsApart gap t x y ⊎ IsApart gap t y x

-- a row: each hold stands so before the next
abbrev pub IsRow : ℕ → Ticks → List Slot → Type 0
IsRow gap t [] = Unit {0}
IsRow gap t (x ∷ []) = Unit {0}
IsRow gap t (x ∷ y ∷ ys) = IsApart gap t x y × IsRow gap t (y ∷ ys)

-- a hold that is not empty and does not begin before the first tick
pub record IsSoundSlot (t : Ticks) (s : Slot) : Type 0 where
  pub long : begin_at t s <ℤ end_at t s
  pub late : pos 0 ≤ℤ begin_at t s

-- the holds on a resource among the rules of an action that runs from one point to another
abbrev pub slots_by : ℕ → Spot → Spot → List HoldRule → List Slot
slots_by resource from to [] = []
slots_by resource from to (rule ∷ rules) =
    if rule.resource.0 == resource then record { rule = rule; from = from; to = to } ∷ slots_by resource from to rules else slots_by resource from to rules

-- the holds on a resource of a copy's actions, the first of which starts at point n
abbrev pub slots_from : Machine → ℕ → SheetId → ℕ → List ActId → List Slot
slots_from machine resource copy n [] = []
slots_from machine resource copy n (act ∷ acts) =
    slots_by resource (kept copy n) (kept copy (suc n)) (holds_of_act (action_at machine act.0)) ++ slots_from machine resource copy (suc n) acts

abbrev pub slots_of : Machine → ℕ → Plan → List Slot
slots_of machine resource p = slots_from machine resource p.sheet 0 p.acts

-- the holds on a resource, plan by plan
abbrev pub slots : Machine → ℕ → List Plan → List Slot
slots machine resource plans = flat_map (slots_of machine resource) plans

-- the hold put before the first that begins later
abbrev pub put_slot : Ticks → Slot → List Slot → List Slot
put_slot t s [] = s ∷ []
put_slot t s (x ∷ xs) = if int_lt (begin_at t s) (begin_at t x) then s ∷ x ∷ xs else (x ∷ put_slot t s xs)

-- the holds in the order of their begins
abbrev pub by_begin : Ticks → List Slot → List Slot
by_begin t [] = []
by_begin t (s ∷ ss) = put_slot t s (by_begin t ss)

-- the ticks that a schedule gives to the points of its plans
abbrev pub point_in : Option Plan → ℕ → ℕ
point_in None i = 0
point_in (Some p) i = point p i

abbrev pub ticks_of : List Plan → Spot → ℕ
ticks_of plans (kept copy i) = point_in (plan_of copy plans) i
ticks_of plans (own n) = 0

-- the slots on a resource in the order of their times. They tell the holds by rules and points alone
abbrev pub slot_order : Machine → List Plan → ℕ → List Slot
slot_order machine plans resource = by_begin (ticks_of plans) (slots machine resource plans)

-- the copy and the action that hold a slot, by the point where the action ends. Own points are of no copy yet
abbrev pub hold_to : Spot → Hold
hold_to (kept copy i) = record { sheet = copy; act = i }
hold_to (own n) = record { sheet = record { job = 0; number = 0; copy = 0 }; act = n }

abbrev pub hold_in : Slot → Hold
hold_in s = hold_to s.to

-- the order of a resource: its holds by their times
abbrev pub order_of : Machine → List Plan → ℕ → List Hold
order_of machine plans resource = map hold_in (slot_order machine plans resource)
