-- Times that rise along edges, each with its cause.
use Rattle.std.specs.Prelude.{◌≡◌, ℕ, ◌<◌, ◌≤◌, ◌+◌, ◌-◌, List, [], ◌∷◌, length, slice_index, slice_index_or, Option, Some, None, pos, ◌+ℤ◌, ◌≤ℤ◌, negsuc}
use Rattle.std.specs.List.{All, Contains}
use Rattle.tp_base.specs.declared.edges.Edge.{Edge}
use Rattle.tp_base.specs.Net.{Keeps}

-- the edge is one of the list, leads to v from a known point, and is at least v's time; where it is v's time, v's stamp is the later
pub record IsCause (count : ℕ) (edges : List Edge) (t stamp : ℕ → ℕ) (v : ℕ) (e : Edge) : Type 0 where
  pub in_list : Contains edges e
  pub to : e.to.0 ≡ v
  pub from : e.from.0 < count
  pub at_most : pos (t v) ≤ℤ (pos (t e.from.0) +ℤ e.weight)
  pub tie : pos (t v) ≡ (pos (t e.from.0) +ℤ e.weight) → stamp e.from.0 < stamp v

-- each point has its low, or has a cause; the stamps say in which order the causes were set
pub record IsSupported (lows : List ℕ) (edges : List Edge) (t : ℕ → ℕ) (cause : ℕ → Option Edge) : Type 0 where
  pub stamp : ℕ → ℕ
  pub next : ℕ
  pub early : (v : ℕ) → v < length lows → stamp v < next
  pub root : (v : ℕ) → v < length lows → cause v ≡ None → t v ≡ slice_index lows v
  pub caused : (v : ℕ) (e : Edge) → v < length lows → cause v ≡ Some e → IsCause (length lows) edges t stamp v e

abbrev pub cause_of : List (Option Edge) → ℕ → Option Edge
cause_of causes v = slice_index_or causes v None

-- from the times t on, with their causes, rising along edges has led to t'
pub record Grows (count : ℕ) (edges : List Edge) (t : ℕ → ℕ) (cause : ℕ → Option Edge) (t' : ℕ → ℕ) (cause' : ℕ → Option Edge) : Type 0 where
  pub supported : (lows : List ℕ) → length lows ≡ count → IsSupported lows edges t cause → IsSupported lows edges t' cause'
  pub rises : (i : ℕ) → i < count → t i ≤ t' i
  pub below : (y : ℕ → ℕ) → All (Keeps y) edges → ((i : ℕ) → i < count → t i ≤ y i) → (i : ℕ) → i < count → t' i ≤ y i

-- the greatest weight of an edge, in ticks
abbrev pub most_weight : ℕ
most_weight = 1000000

-- the edge is between known points, and its weight is small
pub record IsKnown (count : ℕ) (e : Edge) : Type 0 where
  pub from : e.from.0 < count
  pub to : e.to.0 < count
  pub least : negsuc 999999 ≤ℤ e.weight
  pub most : e.weight ≤ℤ pos most_weight

-- how far the times are below the caps, added up
abbrev pub slack : List ℕ → List ℕ → ℕ
slack [] times = 0
slack (c ∷ cs) [] = 0
slack (c ∷ cs) (t ∷ ts) = (c - t) + slack cs ts

-- no time passes its cap
abbrev pub AreWithin : List ℕ → List ℕ → Type 0
AreWithin caps times = (i : ℕ) → i < length times → slice_index times i ≤ slice_index caps i

-- from these times and causes, rising has led to these
abbrev pub Rises : List Edge → List ℕ → List (Option Edge) → List ℕ → List (Option Edge) → Type 0
Rises edges times causes times' causes' =
    Grows (length times) edges (slice_index times) (cause_of causes) (slice_index times') (cause_of causes')

-- from these times and causes, rising has led to a time of p past its cap
pub record PassesCap (caps : List ℕ) (edges : List Edge) (times : List ℕ) (causes causes' : List (Option Edge)) (p : ℕ) : Type 0 where
  pub known : p < length times
  pub time : ℕ → ℕ
  pub grows : Grows (length times) edges (slice_index times) (cause_of causes) time (cause_of causes')
  pub passes : slice_index caps p < time p
