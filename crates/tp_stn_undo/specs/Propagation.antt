-- What following edges does to points.
use Rattle.std.specs.Prelude.{◌≡◌, ℕ, ℤ, ◌⊎◌, ◌+◌, ◌*◌, ◌≤◌, Bool, false, List, length, slice_get, Some, pos, ◌+ℤ◌, ◌<ℤ◌}
use Rattle.std.specs.List.{All}
use Rattle.tp_base.specs.declared.edges.Edge.{Edge}
use Rattle.tp_base.specs.Net.{Keeps}
use Rattle.tp_base.specs.Grows.{Rises, slack}
use Rattle.tp_stn_undo.specs.declared.point_state.PointState.{PointState}
use Rattle.tp_stn_undo.specs.declared.link.Link.{Link}
use Rattle.tp_stn_undo.specs.declared.point_state.SavedState.{SavedState}
use Rattle.tp_stn_undo.specs.States.{lows_of, times_of, edges_of, causes_of, numbered}
use Rattle.tp_stn_undo.specs.Saved.{restored}
use Rattle.tp_stn_undo.specs.Flags.{flag, AreKnown, Waits}

abbrev pub AreNumbered : List Link → List PointState → Type 0
AreNumbered links states = All (λ (s : PointState). s.cause ≤ length links) states

-- the edge with the number asks for more than the time of its end
abbrev pub AsksMore : List Edge → ℕ → (ℕ → ℕ) → Type 0
AsksMore edges number t = (e : Edge) → numbered edges number ≡ Some e → pos (t e.to.0) <ℤ (pos (t e.from.0) +ℤ e.weight)

-- the edge with the number asks for this of its end
abbrev pub AsksFor : List Edge → ℕ → (ℕ → ℕ) → ℤ → Type 0
AsksFor edges number t reach = (e : Edge) → numbered edges number ≡ Some e → reach ≡ (pos (t e.from.0) +ℤ e.weight)

-- the edge with this number, counted from 1, begins at the point
pub record IsFrom (links : List Link) (point number : ℕ) : Type 0 where
  pub at : ℕ
  pub link : Link
  pub get : slice_get links at ≡ Some link
  pub begins : link.edge.from.0 ≡ point
  pub number_is : number ≡ at + 1

-- the number of an edge that begins at the point, counted from 1, or 0
abbrev pub Reached : List Link → ℕ → ℕ → Type 0
Reached links point number = (number ≡ 0) ⊎ IsFrom links point number

-- the points have risen along edges
abbrev pub StatesRise : List Link → List PointState → List PointState → Type 0
StatesRise links states states' = Rises (edges_of links) (times_of states) (causes_of (edges_of links) states) (times_of states') (causes_of (edges_of links) states')

-- what was noted leads from the later points back to what the earlier ones lead to; and nothing else changed
pub record LeadsBack (links : List Link) (states states' : List PointState) (noted noted' : List SavedState) : Type 0 where
  pub back : restored noted' states' ≡ restored noted states
  pub known : AreKnown (length states) noted → AreKnown (length states) noted'
  pub lows : lows_of states' ≡ lows_of states
  pub numbered : AreNumbered links states → AreNumbered links states'
  pub len : length states' ≡ length states

-- all edges are kept but those from points that wait, and those from one point before a place in the list
abbrev pub KeptFrom : List Edge → (ℕ → ℕ) → List Bool → ℕ → ℕ → Type 0
KeptFrom edges t flags point left = (k : ℕ) (e : Edge) → slice_get edges k ≡ Some e → flag flags e.from.0 ≡ false → (e.from.0 ≡ point → left ≤ k) → Keeps t e

-- one edge is kept, or its point waits
abbrev pub IsMet : List Edge → (ℕ → ℕ) → List Bool → ℕ → Type 0
IsMet edges t flags k = (e : Edge) → slice_get edges k ≡ Some e → flag flags e.from.0 ≡ false → Keeps t e

abbrev pub AreKept : List Edge → (ℕ → ℕ) → List Bool → Type 0
AreKept edges t flags = (k : ℕ) (e : Edge) → slice_get edges k ≡ Some e → flag flags e.from.0 ≡ false → Keeps t e

-- what gets less with each point that is taken
abbrev pub weight : List ℕ → List PointState → Waits → ℕ
weight caps states w = slack caps (times_of states) * (length w.flags + 1) + length w.points
