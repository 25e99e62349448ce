-- Orders, and what stands on a machine.
use Rattle.std.specs.Prelude.{◌≡◌, ◌+◌, ◌*◌, ◌^◌, ◌<◌, ◌≤◌, ℕ, List, length, Option, Some, None, slice_get, reverse, take}
use Rattle.tp_machine.specs.declared.machine.Machine.{Machine}
use Rattle.tp_schedule.specs.Choices.{placed}
use Rattle.tp_schedule.specs.Spots.{Slot, slot_order}
use Rattle.tp_schedule.specs.declared.parts.Plan.{Plan}
use Rattle.tp_bound_laws.specs.Places.{Branch, Span, next_rule}
use Rattle.tp_bound_check.specs.Founds.{IsTrack, track_of}
use Rattle.tp_bound_check.specs.declared.found.Ends.{Ends}
use Rattle.tp_bound_check.specs.declared.found.Part.{Part}

-- the orders of the first so many resources
abbrev pub AreOrdersTo : Machine → List Plan → ℕ → List (List Slot) → Type 0
AreOrdersTo machine plans n orders = (length orders ≡ n) × ((r : ℕ) (order : List Slot) → slice_get orders r ≡ Some order → order ≡ slot_order machine plans r)

-- the order of each resource
abbrev pub AreOrders : Machine → List Plan → List (List Slot) → Type 0
AreOrders machine plans orders = AreOrdersTo machine plans (length machine.resources) orders

-- the order of a resource with the holds of the first so many choices
abbrev pub order_until : Machine → List Plan → Branch → ℕ → ℕ → List Slot
order_until machine plans b resource n = placed machine resource (slot_order machine plans resource) (reverse (take n (reverse b.x.choices)))

-- the track is that of the order with the holds of so many choices of the branch
pub record IsPart (machine : Machine) (plans : List Plan) (b : Branch) (resource : ℕ) (ends : Ends) (part : Part) : Type 0 where
  pub order : part.track ≡ track_of ends.before ends.after (order_until machine plans b resource part.count)
  pub track : IsTrack part.track
  pub few : part.track.len < 2 ^ 32 + 4 * part.count

-- the hold with several places is the next one of the branch, and its places stand in their order
abbrev pub IsSpanOf : Machine → Branch → Option Span → Type 0
IsSpanOf machine b None = Unit {0}
IsSpanOf machine b (Some span) = (next_rule machine b.x ≡ Some span.rule) × (span.lo ≤ span.hi)
