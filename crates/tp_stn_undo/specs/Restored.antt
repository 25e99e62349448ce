-- What a network is once it went back to a mark.
use Rattle.std.specs.Prelude.{◌≡◌, ℕ, ◌-◌, ◌<◌, ◌≤◌, List, [], length, take, drop}
use Rattle.tp_stn_undo.specs.declared.point_state.PointState.{PointState}
use Rattle.tp_stn_undo.specs.declared.link.Link.{Link}
use Rattle.tp_stn_undo.specs.declared.marks.LiveMark.{LiveMark}
use Rattle.tp_stn_undo.specs.declared.point_state.SavedState.{SavedState}
use Rattle.tp_stn_undo.specs.Saved.{restored, relinked}
use Rattle.tp_stn_undo.specs.Flags.{Noted}
use Rattle.tp_stn_undo.specs.Marks.{IsAt}

-- the points of a network, their upper bounds, its edges, the newest edge from each point, and what was saved for its marks
pub record Lists : Type 0 where
  pub states : List PointState
  pub caps : List ℕ
  pub links : List Link
  pub heads : List ℕ
  pub saved : List SavedState

-- the lists as they were at a mark
abbrev pub at_mark : LiveMark → Lists → Lists
at_mark m l = record {
  states = restored (drop m.saved l.saved) (take m.points l.states);
  caps = take m.points l.caps;
  links = take m.edges l.links;
  heads = relinked (drop m.edges l.links) (take m.points l.heads);
  saved = take m.saved l.saved;
}

-- there is a mark, and the edges at the newest are among so many
pub record HasNewest (marks : List LiveMark) (edges : ℕ) : Type 0 where
  pub some : 0 < length marks
  pub edges_below : IsAt marks (length marks - 1) (λ m. m.edges ≤ edges)

-- nothing is noted, and there is the room that there was
pub record IsCleared (old new : Noted) : Type 0 where
  pub none : new.entries ≡ []
  pub capacity : new.capacity ≡ old.capacity
  pub most : new.most ≡ old.most
