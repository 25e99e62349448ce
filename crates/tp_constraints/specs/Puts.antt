-- Holds that are put into the orders of their resources, one after another.
use Rattle.std.specs.Prelude.{◌≡◌, ℕ, suc, ◌≤◌, ◌==◌, List, [], ◌∷◌, ◌++◌, insert, length, map, if◌then◌else◌}
use Rattle.tp_machine.specs.Modes.{gap_at}
use Rattle.tp_machine.specs.ModuleUse.{action_at}
use Rattle.tp_machine.specs.declared.parts.ActId.{ActId}
use Rattle.tp_machine.specs.declared.parts.HoldRule.{HoldRule}
use Rattle.tp_machine.specs.declared.machine.Machine.{Machine}
use Rattle.tp_schedule.specs.Holders.{holds_of_act}
use Rattle.tp_schedule.specs.Spots.{Slot, Spot}
use Rattle.tp_schedule.specs.Spots.Spot.{kept}
use Rattle.tp_schedule.specs.declared.parts.Plan.{Plan}
use Rattle.tp_schedule.specs.declared.parts.SheetId.{SheetId}
use Rattle.tp_constraints.specs.Gaps.{Gap}
use Rattle.tp_constraints.specs.Hops.{Hop, place_hops}
use Rattle.tp_constraints.specs.Suffixes.{place_gaps}

-- a hold, and the place that it gets in the order of its resource
pub record Put : Type 0 where
  pub slot : Slot
  pub place : ℕ

abbrev pub resource_of : Put → ℕ
resource_of p = p.slot.rule.resource.0

-- the orders with the hold put in, and with several, the first one first
abbrev pub with_put : Put → (ℕ → List Slot) → ℕ → List Slot
with_put p orders resource = if resource_of p == resource then insert (orders resource) p.place p.slot else orders resource

abbrev pub with_puts : List Put → (ℕ → List Slot) → ℕ → List Slot
with_puts [] orders = orders
with_puts (p ∷ puts) orders = with_puts puts (with_put p orders)

-- each place is there when its hold is put in
abbrev pub AreWithin : List Put → (ℕ → List Slot) → Type 0
AreWithin [] orders = Unit {0}
AreWithin (p ∷ puts) orders = (p.place ≤ length (orders (resource_of p))) × AreWithin puts (with_put p orders)

-- the gaps to the neighbours that each hold has when it is put in, and the hops that they are
abbrev pub put_gaps : Machine → List Put → (ℕ → List Slot) → List Gap
put_gaps machine [] orders = []
put_gaps machine (p ∷ puts) orders = place_gaps (gap_at machine (resource_of p)) (orders (resource_of p)) p.place p.slot ++ put_gaps machine puts (with_put p orders)

abbrev pub put_hops : Machine → List Put → (ℕ → List Slot) → List Hop
put_hops machine [] orders = []
put_hops machine (p ∷ puts) orders = place_hops machine (resource_of p) (orders (resource_of p)) p.place p.slot ++ put_hops machine puts (with_put p orders)

-- the holds by rules of an action, and of a copy's actions, the first of which starts at point n
abbrev pub rule_slot : Spot → Spot → HoldRule → Slot
rule_slot from to rule = record { rule = rule; from = from; to = to }

abbrev pub held_slots : Machine → SheetId → ℕ → List ActId → List Slot
held_slots machine copy n [] = []
held_slots machine copy n (act ∷ acts) = map (rule_slot (kept copy n) (kept copy (suc n))) (holds_of_act (action_at machine act.0)) ++ held_slots machine copy (suc n) acts

-- the holds that are put in are those of a plan
abbrev pub AreHoldsOf : Machine → Plan → List Put → Type 0
AreHoldsOf machine p puts = map (λ x. x.slot) puts ≡ held_slots machine p.sheet 0 p.acts
