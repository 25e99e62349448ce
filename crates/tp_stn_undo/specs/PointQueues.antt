-- A line of points.
use Rattle.std.specs.Prelude.{◌≤◌, length, drop, vec_capacity}
use Rattle.tp_stn_undo.specs.declared.point_queue.PointQueue.TheInside.{Inside}
use Rattle.tp_stn_undo.specs.Flags.{QueueValue}

-- those that were taken stand in front
abbrev pub queue_of : Inside → QueueValue
queue_of a = record { points = drop a.taken a.points.items; capacity = vec_capacity a.points }

pub record IsQueue (a : Inside) : Type 0 where
  pub within : a.taken ≤ length a.points.items
