-- What is read of a loaded board: a hold in its order, and an end in a line.
use Rattle.std.specs.Prelude.{◌≡◌, Bool, List, length, Contains, IsTrue, slice_get, Some}
use Rattle.tp_base.specs.declared.edges.PointId.{PointId}
use Rattle.tp_schedule.specs.Spots.{Slot, Spot}
use Rattle.tp_schedule.specs.Spots.Spot.{kept}
use Rattle.tp_schedule.specs.declared.parts.Plan.{Plan}
use Rattle.tp_constraints.specs.Numbers.{table_of}
use Rattle.tp_placing.specs.declared.parts.Held.{Held}

-- the hold is the slot, its points by the table
pub record IsHoldOf (table : List Spot) (hold : Held) (s : Slot) : Type 0 where
  pub rule : hold.rule ≡ s.rule
  pub start : slice_get table hold.start.0 ≡ Some s.from
  pub end : slice_get table hold.end.0 ≡ Some s.to

-- the point is the end of one of the plans, and one that is sought
pub record IsEndIn (sought : Plan → Bool) (plans : List Plan) (point : PointId) : Type 0 where
  pub plan : Plan
  pub in_plans : Contains plans plan
  pub is_sought : IsTrue (sought plan)
  pub end : slice_get (table_of plans) point.0 ≡ Some (kept plan.sheet (length plan.acts))
