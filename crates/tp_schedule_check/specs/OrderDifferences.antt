-- Orders of resources that are kept from one schedule to another, and where they part.
use Rattle.std.specs.Prelude.{◌≡◌, ◌≢◌, ℕ, ◌==◌, Bool, false, nat_lt, not, List, filter, map, take, slice_get, Option, Some, None, option_map, if◌then◌else◌}
use Rattle.tp_machine.specs.declared.machine.Machine.{Machine}
use Rattle.tp_machine.specs.declared.parts.ResId.{ResId}
use Rattle.tp_schedule.specs.Answers.{is_new}
use Rattle.tp_schedule.specs.Spots.{Slot, hold_in, slot_order}
use Rattle.tp_schedule.specs.declared.parts.Ask.{Ask}
use Rattle.tp_schedule.specs.declared.parts.Hold.{Hold}
use Rattle.tp_schedule.specs.declared.parts.Plan.{Plan}
use Rattle.tp_schedule_check.specs.Holds.{slot_of}
use Rattle.tp_schedule_check.specs.declared.held.NumberedHold.{NumberedHold}
use Rattle.tp_schedule_check.specs.declared.parting.Parting.{Parting}

-- a new hold of the copy that is asked for, if one is
abbrev pub is_new_of : Option Ask → Slot → Bool
is_new_of None s = false
is_new_of (Some ask) s = is_new ask s

-- the order of a resource, less the new holds
abbrev pub old_order : Machine → Option Ask → List Plan → ℕ → List Slot
old_order machine asked plans resource = filter (λ s. not (is_new_of asked s)) (slot_order machine plans resource)

-- on each resource the order of the holds, less the new ones, is the one before
abbrev pub AreOrdersKept : Machine → Option Ask → List Plan → List Plan → Type 0
AreOrdersKept machine asked plans plans' = (resource : ℕ) → old_order machine asked plans' resource ≡ slot_order machine plans resource

-- two orders are the same up to a place, at which the one has a hold that the other has not
pub record DoPart (before after : List Slot) (stood stands : Option Hold) : Type 0 where
  pub place : ℕ
  pub alike : take place after ≡ take place before
  pub stood_is : stood ≡ option_map hold_in (slice_get before place)
  pub stands_is : stands ≡ option_map hold_in (slice_get after place)
  pub differ : slice_get before place ≢ slice_get after place

-- they part on this resource
abbrev pub IsParting : Machine → Option Ask → List Plan → List Plan → Parting → Type 0
IsParting machine asked plans plans' p = DoPart (slot_order machine plans p.resource.0) (old_order machine asked plans' p.resource.0) p.stood p.stands

-- ---- as they are looked at: sorted holds

abbrev pub hold_on : ResId → Option NumberedHold → Option Hold
hold_on resource None = None
hold_on resource (Some h) = if h.rule.resource.0 == resource.0 then Some h.hold else None

abbrev pub first_of : NumberedHold → NumberedHold → ResId
first_of x y = if nat_lt y.rule.resource.0 x.rule.resource.0 then y.rule.resource else x.rule.resource

abbrev pub first_resource : Option NumberedHold → Option NumberedHold → Option ResId
first_resource None None = None
first_resource None (Some y) = Some y.rule.resource
first_resource (Some x) None = Some x.rule.resource
first_resource (Some x) (Some y) = Some (first_of x y)

abbrev pub seen_slot : Option NumberedHold → Option Slot
seen_slot o = option_map slot_of o

-- both lists begin with so many of the same holds, and no more
pub record IsCommon (before after : List NumberedHold) (n : ℕ) : Type 0 where
  pub alike : map slot_of (take n after) ≡ map slot_of (take n before)
  pub ends : seen_slot (slice_get before n) ≡ seen_slot (slice_get after n) → (slice_get before n ≡ None) × (slice_get after n ≡ None)

abbrev pub part_on : Option ResId → Option NumberedHold → Option NumberedHold → Option Parting
part_on None stood stands = None
part_on (Some r) stood stands = Some (record { resource = r; stood = hold_on r stood; stands = hold_on r stands })

pub record IsFirstParting (before after : List NumberedHold) (found : Option Parting) : Type 0 where
  pub place : ℕ
  pub common : IsCommon before after place
  pub is : found ≡ part_on (first_resource (slice_get before place) (slice_get after place)) (slice_get before place) (slice_get after place)
