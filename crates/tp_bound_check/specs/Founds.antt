-- Where holds stand in an order.
use Rattle.std.specs.Prelude.{ℕ, suc, ◌<◌, Bool, ◌&&◌, ◌||◌, nat_le, nat_lt, List, [], ◌∷◌, length, Option, Some, None, IfSome, option_map, if◌then◌else◌}
use Rattle.tp_constraints.specs.Gaps.{Gap, slot_gap}
use Rattle.tp_constraints.specs.Numbers.{is_same_spot}
use Rattle.tp_schedule.specs.Spots.{Slot, Spot}
use Rattle.tp_bound_check.specs.declared.found.Found.{Found}
use Rattle.tp_bound_check.specs.declared.found.Track.{Track}

abbrev pub next_found : Found → Found
next_found f = record { at = suc f.at; slot = f.slot }

-- the first hold of the action that starts at the point
abbrev pub found_in : Spot → List Slot → Option Found
found_in start [] = None
found_in start (s ∷ slots) = if is_same_spot s.from start then Some (record { at = 0; slot = s }) else option_map next_found (found_in start slots)

-- the earlier of a hold at a place and another one
abbrev pub earlier : ℕ → Slot → Option Found → Option Found
earlier at s None = Some (record { at = at; slot = s })
earlier at s (Some f) = if nat_le at f.at then Some (record { at = at; slot = s }) else Some f

-- a hold, where another one is put at a place
abbrev pub shifted : ℕ → Found → Found
shifted at f = if nat_lt f.at at then f else next_found f

abbrev pub put_found : Spot → ℕ → Slot → Option Found → Option Found
put_found start at s o = if is_same_spot s.from start then earlier at s o else option_map (shifted at) o

-- the length of an order, with the holds of two actions in it
abbrev pub track_of : Spot → Spot → List Slot → Track
track_of before after order = record { len = length order; before = found_in before order; after = found_in after order }

abbrev pub IsBelow : ℕ → Option Found → Type 0
IsBelow len o = IfSome o (λ f. f.at < len)

abbrev pub IsTrack : Track → Type 0
IsTrack t = IsBelow t.len t.before × IsBelow t.len t.after

-- the place isn't one of those from the one on that stand before the other
abbrev pub is_outside : ℕ → ℕ → Found → Bool
is_outside lo hi f = nat_lt f.at lo || nat_le hi f.at

-- what is between two holds where the one stands before the other, without the places from the one on that stand before
-- the other
abbrev pub gap_out : ℕ → ℕ → ℕ → Option Found → Option Found → Option Gap
gap_out apart lo hi None other = None
gap_out apart lo hi (Some a) None = None
gap_out apart lo hi (Some a) (Some b) = if nat_lt a.at b.at && is_outside lo hi a && is_outside lo hi b then Some (slot_gap apart a.slot b.slot) else None

-- a hold of an order where it stands from a place on, and where it stands before one
abbrev pub slot_behind : ℕ → Option Found → Option Slot
slot_behind hi None = None
slot_behind hi (Some f) = if nat_le hi f.at then Some f.slot else None

abbrev pub slot_before : ℕ → Option Found → Option Slot
slot_before lo None = None
slot_before lo (Some f) = if nat_lt f.at lo then Some f.slot else None
