-- What shows that a network has no solution.
use Rattle.std.specs.Prelude.{◌≡◌, ℕ, ◌<◌, List, [], ◌∷◌, length, slice_index, ℤ, pos, ◌+ℤ◌, ◌<ℤ◌, map, Option, Some, None}
use Rattle.std.specs.List.{All, Contains}
use Rattle.tp_base.specs.declared.edges.Edge.{Edge}
use Rattle.tp_base.specs.declared.edges.Proof.{Proof}
use Rattle.tp_base.specs.declared.edges.Proof.TheVariants.{Chain, Circle}
use Rattle.tp_base.specs.Net.{Net}
use Rattle.tp_base.specs.Grows.{cause_of}

-- each edge begins where the one before ends, the first at a, and the last ends at b
abbrev pub Leads : ℕ → List Edge → ℕ → Type 0
Leads a [] b = a ≡ b
Leads a (e ∷ es) b = (e.from.0 ≡ a) × Leads e.to.0 es b

-- the weights, added up
abbrev pub total_weight : List Edge → ℤ
total_weight [] = pos 0
total_weight (e ∷ es) = e.weight +ℤ total_weight es

-- no number occurs twice
abbrev pub AreApart : List ℕ → Type 0
AreApart ps = (i j : ℕ) → i < j → j < length ps → slice_index ps i ≡ slice_index ps j → ⊥

-- where the edges end
abbrev pub ends_of : List Edge → List ℕ
ends_of es = map (λ e. e.to.0) es

-- edges of the net from a first point, whose low with their weights passes the cap of their last point
pub record IsLateChain (net : Net) (first : ℕ) (edges : List Edge) : Type 0 where
  pub last : ℕ
  pub leads : Leads first edges last
  pub in_net : All (Contains net.edges) edges
  pub known : first < length net.lows
  pub last_known : last < length net.lows
  pub passes : pos (slice_index net.caps last) <ℤ (pos (slice_index net.lows first) +ℤ total_weight edges)
  pub apart : AreApart (first ∷ ends_of edges)

-- edges of the net that lead back to where they began, a closed walk, with a positive sum
pub record IsLateCircle (net : Net) (edges : List Edge) : Type 0 where
  pub first : ℕ
  pub leads : Leads first edges first
  pub in_net : All (Contains net.edges) edges
  pub positive : pos 0 <ℤ total_weight edges
  pub apart : AreApart (ends_of edges)

abbrev pub Refutes : Net → Proof → Type 0
Refutes net (Chain first edges) = IsLateChain net first.0 edges.now
Refutes net (Circle edges) = IsLateCircle net edges.now

-- the edge is the cause of its end
abbrev pub IsCaused : List (Option Edge) → Edge → Type 0
IsCaused causes e = (e.to.0 < length causes) × (cause_of causes e.to.0 ≡ Some e)

-- causes lead from known points to the point that has them
abbrev pub AreCauses : List (Option Edge) → Type 0
AreCauses causes = (v : ℕ) (e : Edge) → v < length causes → cause_of causes v ≡ Some e → (e.to.0 ≡ v) × (e.from.0 < length causes)

-- causes, one after another, from a point that has none
pub record IsCauseChain (causes : List (Option Edge)) (first : ℕ) (edges : List Edge) (last : ℕ) : Type 0 where
  pub leads : Leads first edges last
  pub caused : All (IsCaused causes) edges
  pub known : first < length causes
  pub root : cause_of causes first ≡ None
  pub apart : AreApart (first ∷ ends_of edges)

-- causes that lead round
pub record IsCauseCircle (causes : List (Option Edge)) (edges : List Edge) : Type 0 where
  pub first : ℕ
  pub leads : Leads first edges first
  pub some : 0 < length edges
  pub caused : All (IsCaused causes) edges
  pub apart : AreApart (ends_of edges)
