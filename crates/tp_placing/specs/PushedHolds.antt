-- How a hold pushes those behind it: when holds begin and end, by the times of their points, and what an order keeps with one
-- hold more.
use Rattle.std.specs.Prelude.{◌≡◌, ℕ, suc, ◌+◌, ◌<◌, ◌≤◌, List, Option, Some, ℤ, pos, ◌+ℤ◌, ◌≤ℤ◌, ◌<ℤ◌}
use Rattle.tp_base.specs.declared.edges.PointId.{PointId}
use Rattle.tp_machine.specs.declared.machine.Machine.{Machine}
use Rattle.tp_machine.specs.declared.parts.ActId.{ActId}
use Rattle.tp_schedule.specs.Plans.{LastsWithin}
use Rattle.tp_schedule.specs.declared.parts.Plan.{Plan}
use Rattle.tp_placing.specs.Edges.{anchor_point, held_of, held_before, held_behind}
use Rattle.tp_placing.specs.declared.parts.Held.{Held}
use Rattle.std.specs.List.{slice_get}

-- the points from which a hold's begin and end are counted
abbrev pub begin_point : Held → PointId
begin_point h = anchor_point h.rule.begin h.start h.end

abbrev pub end_point : Held → PointId
end_point h = anchor_point h.rule.end h.start h.end

-- when a hold begins and ends, where its points have these times
abbrev pub begin_by : (ℕ → ℕ) → Held → ℤ
begin_by y h = pos (y (begin_point h).0) +ℤ h.rule.begin_off

abbrev pub end_by : (ℕ → ℕ) → Held → ℤ
end_by y h = pos (y (end_point h).0) +ℤ h.rule.end_off

-- both points of a hold are among so many
abbrev pub IsAmong : ℕ → Held → Type 0
IsAmong points h = ((begin_point h).0 < points) × ((end_point h).0 < points)

-- a hold is not empty
abbrev pub IsLong : (ℕ → ℕ) → Held → Type 0
IsLong y h = begin_by y h <ℤ end_by y h

-- the holds of an order are not empty, and each ends by the begin of the next
pub record IsRowBy (y : ℕ → ℕ) (held : List Held) (order : List ℕ) : Type 0 where
  pub long : (k : ℕ) (h : Held) → held_of held (slice_get order k) ≡ Some h → IsLong y h
  pub apart : (k : ℕ) (g h : Held) → held_of held (slice_get order k) ≡ Some g → held_of held (slice_get order (suc k)) ≡ Some h → end_by y g ≤ℤ begin_by y h

-- a new hold stands at a place of it
pub record IsPutBy (y : ℕ → ℕ) (held : List Held) (order : List ℕ) (new : Held) (place : ℕ) : Type 0 where
  pub row : IsRowBy y held order
  pub long : IsLong y new
  pub after : (g : Held) → held_before held order place ≡ Some g → end_by y g ≤ℤ begin_by y new
  pub until : (h : Held) → held_behind held order place ≡ Some h → end_by y new ≤ℤ begin_by y h

-- a hold's action lasts at least so long, where that is known
abbrev pub LastsAtLeast : (ℕ → ℕ) → Held → Option ℕ → Type 0
LastsAtLeast y h least = (ticks : ℕ) → least ≡ Some ticks → y h.start.0 + ticks ≤ y h.end.0

-- the actions of plans, whose points are numbered from their first ones on, last within their durations
abbrev pub ArePlanned : Machine → List Plan → List PointId → (ℕ → ℕ) → Type 0
ArePlanned machine plans firsts y = (k i : ℕ) (p : Plan) (f : PointId) (act : ActId) → slice_get plans k ≡ Some p → slice_get firsts k ≡ Some f → slice_get p.acts i ≡ Some act → LastsWithin machine act (y (f.0 + i)) (y (f.0 + suc i))
