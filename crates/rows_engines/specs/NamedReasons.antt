-- What a board tells of a refusal, by name.
use Rattle.std.specs.Prelude.{◌≡◌, ◌<◌, List, length, map, slice_get, Option, Some, None, option_map, option_and_then, All}
use Rattle.tp_base.specs.Net.{Net}
use Rattle.tp_base.specs.Refute.{Refutes}
use Rattle.tp_base.specs.declared.edges.Edge.{Edge}
use Rattle.tp_base.specs.declared.edges.Proof.{Proof}
use Rattle.tp_base.specs.declared.edges.Proof.TheVariants.{Chain, Circle}
use Rattle.tp_placing.specs.Boards.{BoardValue}
use Rattle.tp_placing.specs.Causes.{kind_of, named_point, why_name}
use Rattle.tp_placing.specs.Reasons.{IsShown}
use Rattle.tp_placing.specs.declared.reason_names.Spot.{Spot}
use Rattle.tp_placing.specs.declared.reason_names.Why.{Why}

-- each edge has a cause that the board keeps
abbrev pub HaveCauses : {N : Type 0} → BoardValue N → List Edge → Type 0
HaveCauses b edges = All (λ e. e.tag < length b.causes) edges

-- what is kept of the last refusal is of a network whose edges have their causes
pub record IsTold {N : Type 0} (refutes : N → Net → Type 0) (b : BoardValue N) : Type 0 where
  pub net : Net
  pub shown : IsShown refutes b.net net
  pub causes : HaveCauses b net.edges

-- why an edge stands, and the name of the point that it leads to
abbrev pub edge_name : {N : Type 0} → BoardValue N → Edge → Option (Why × Spot)
edge_name b e = option_and_then (λ why. option_map (λ spot. (why, spot)) (named_point b.plans b.limit e.to)) (why_name b.plans (kind_of b.plans (slice_get b.causes e.tag)))

abbrev pub edges_of : Proof → List Edge
edges_of (Chain first edges) = edges.now
edges_of (Circle edges) = edges.now

-- the name of the point where a chain begins
abbrev pub first_name : {N : Type 0} → BoardValue N → Proof → Option Spot
first_name b (Chain first edges) = named_point b.plans b.limit first
first_name b (Circle edges) = None

-- the names are those of what refutes each network of which the last refusal is
pub record AreNames {N : Type 0} (refutes : N → Net → Type 0) (b : BoardValue N) (first : Option Spot) (names : List (Why × Spot)) : Type 0 where
  pub proof : Proof
  pub refuted : (net : Net) → IsShown refutes b.net net → Refutes net proof
  pub begins : first_name b proof ≡ first
  pub edges : map Some names ≡ map (edge_name b) (edges_of proof)
