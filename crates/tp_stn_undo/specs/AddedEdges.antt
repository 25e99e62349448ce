-- What adding edges does.
use Rattle.std.specs.Prelude.{◌≡◌, ◌≢◌, ℕ, ◌+◌, ◌<◌, ◌≤◌, ◌^◌, Bool, false, List, [], ◌++◌, length, slice_index}
use Rattle.std.specs.List.{All}
use Rattle.tp_base.specs.declared.edges.Edge.{Edge}
use Rattle.tp_stn_undo.specs.declared.point_state.PointState.{PointState}
use Rattle.tp_stn_undo.specs.declared.link.Link.{Link}
use Rattle.tp_stn_undo.specs.declared.point_state.SavedState.{SavedState}
use Rattle.tp_stn_undo.specs.declared.working.Working.{Working}
use Rattle.tp_stn_undo.specs.States.{IsSound, lows_of, edges_of}
use Rattle.tp_stn_undo.specs.Saved.{restored}
use Rattle.tp_stn_undo.specs.Flags.{flag, AreIdle, AreKnown}
use Rattle.tp_stn_undo.specs.Marks.{AreLinks}
use Rattle.tp_stn_undo.specs.CauseTraces.{AreZeros}
use Rattle.tp_stn_undo.specs.WorkingRoom.{HasWorkingCapacity}

-- a point with no edge that leads to it
abbrev pub new_state : ℕ → PointState
new_state low = record { low = low; time = low; cause = 0 }

-- the edge as the newest that begins where it does
abbrev pub newest_link : List ℕ → Edge → Link
newest_link heads e = record { edge = e; older = slice_index heads e.from.0 }

-- points and edges that edges can be added to: their times are the least, no point waits, and there is room
pub record CanAdd (caps : List ℕ) (links : List Link) (heads : List ℕ) (states : List PointState) (w : Working) : Type 0 where
  pub sound : IsSound (record { states = states; caps = caps; links = links })
  pub linked : AreLinks links heads (length states)
  pub small : length states < 2 ^ 32
  pub capacity : HasWorkingCapacity (length states) w
  pub idle : AreIdle w.waiting.flags
  pub none : w.waiting.points ≡ []
  pub zeros : AreZeros w.places.items

-- so many more edges fit in memory, and their numbers in 32 bits
pub record HasLinkRoom (count more capacity : ℕ) : Type 0 where
  pub fits : count + more ≤ capacity
  pub few : count + more < 2 ^ 32

-- no edge stands that did not stand before, the points are what they were, and nothing is noted
pub record AreTakenBack (links links' : List Link) (states states' : List PointState) (noted' : List SavedState) : Type 0 where
  pub same_links : links' ≡ links
  pub same_states : states' ≡ states
  pub none : noted' ≡ []

-- the edges stand after those that were there
pub record AreLinkedAfter (links links' : List Link) (edges : List Edge) : Type 0 where
  pub more : List Link
  pub after : links' ≡ links ++ more
  pub edges_are : edges_of more ≡ edges

-- the points where the edges begin wait, beside those that waited
abbrev pub AllWait : List Edge → List Bool → List Bool → Type 0
AllWait edges flags flags' = (v : ℕ) → flag flags' v ≡ false → (flag flags v ≡ false) × All (λ (e : Edge). e.from.0 ≢ v) edges

-- edges were added, the times are the least again, and what was noted leads back to what the points were
pub record Adds (edges : List Edge) (caps : List ℕ) (links links' : List Link) (states states' : List PointState) (noted : List SavedState) : Type 0 where
  pub linked : AreLinkedAfter links links' edges
  pub sound : IsSound (record { states = states'; caps = caps; links = links' })
  pub lows : lows_of states' ≡ lows_of states
  pub len : length states' ≡ length states
  pub back : restored noted states' ≡ states
  pub known : AreKnown (length states) noted
