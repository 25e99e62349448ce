-- When points can be saved and put back.
use Rattle.std.specs.Prelude.{ℕ, ◌+◌, ◌*◌, ◌≤◌, List, length}
use Rattle.tp_stn_undo.specs.declared.marks.LiveMark.{LiveMark}
use Rattle.tp_stn_undo.specs.declared.point_state.SavedState.{SavedState}
use Rattle.tp_stn_undo.specs.Flags.{Noted, AreKnown}
use Rattle.tp_stn_undo.specs.Marks.{AreStacked, AreSaved}

-- the marks stand on what was saved, which is no more than so many points for each mark
pub record IsStack (marks : List LiveMark) (saved : List SavedState) (points edges capacity : ℕ) : Type 0 where
  pub stacked : AreStacked marks points edges (length saved) capacity
  pub kept : AreSaved marks saved points
  pub filled : length saved ≤ length marks * capacity

-- there is memory for each point once for each mark and once more, and the changed points are known
pub record CanSave (marks : List LiveMark) (w : Noted) : Type 0 where
  pub points : ℕ
  pub edges : ℕ
  pub stack : IsStack marks w.older points edges w.capacity
  pub known : AreKnown points w.entries
  pub fits : points ≤ w.capacity
  pub enough : (length marks + 1) * w.capacity ≤ w.most
