-- What a change is worked out with.
use Rattle.std.specs.Prelude.{◌≡◌, ℕ, ◌≤◌, [], length, vec_capacity}
use Rattle.tp_stn_undo.specs.declared.working.Working.{Working}
use Rattle.tp_stn_undo.specs.Flags.{AreIdle, IsSameSave}
use Rattle.tp_stn_undo.specs.CauseTraces.{AreZeros}

-- room for so many points
pub record HasWorkingCapacity (points : ℕ) (w : Working) : Type 0 where
  pub waits : points ≤ length w.waiting.flags
  pub noted : points ≤ w.changes.capacity
  pub path : points ≤ vec_capacity w.path
  pub places : points ≤ vec_capacity w.places

-- the room stays, and what was saved before
pub record KeepsSizes (old new : Working) : Type 0 where
  pub waits : length new.waiting.flags ≡ length old.waiting.flags
  pub noted : IsSameSave old.changes new.changes
  pub path : vec_capacity old.path ≤ vec_capacity new.path
  pub places : vec_capacity old.places ≤ vec_capacity new.places

-- between two changes no point waits or is noted, and each place is 0
pub record AtRest (w : Working) : Type 0 where
  pub idle : AreIdle w.waiting.flags
  pub none : w.waiting.points ≡ []
  pub unchanged : w.changes.entries ≡ []
  pub zeros : AreZeros w.places.items
