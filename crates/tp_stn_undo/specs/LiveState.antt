-- What a live network is seen as.
use Rattle.std.specs.Prelude.{ℕ, List, Option, ◌≡◌, refl}
use Rattle.std.proofs.Common.{subst}
use Rattle.tp_base.specs.declared.edges.Edge.{Edge}
use Rattle.tp_base.specs.Net.{Net}
use Rattle.tp_base.specs.Readings.{IsKeptByMarks, Reading}
use Rattle.tp_base.specs.declared.kept.Kept.{Kept}
use Rattle.tp_base.specs.Kept.{KeptRefutes}

-- the net, the nets at the marks in force, for each point the edge that its time comes by, or None where it is its lower
-- bound; what the network was made for, and what is kept of a refusal
pub record LiveState : Type 0 where
  pub net : Net
  pub past : List Net
  pub causes : List (Option Edge)
  pub max_points : ℕ
  pub max_edges : ℕ
  pub max_marks : ℕ
  pub kept : Kept
  pub path : List Edge

-- its net, and those at its marks
abbrev pub live_reading : Reading LiveState
live_reading = record {
  net = λ n. n.net;
  past = λ n. n.past;
  max_marks = λ n. n.max_marks;
  max_points = λ n. n.max_points;
  max_edges = λ n. n.max_edges;
}

pub kept_by_marks : IsKeptByMarks live_reading (λ n. n.net) (λ n. n.past) (λ n. n.max_marks)
kept_by_marks = record {
  capacity = λ n. refl;
  count = λ n. refl;
  same = λ n n' e. e;
  same_net = λ n n' e. e;
  same_past = λ n n' e. e;
  same_nets = λ n n' e. e;
  marked = λ n n' e. e;
  back = λ n n' k e. e;
  fewer = λ n n' k e. e;
}

-- what marks leave alone
pub record LiveUntouched : Type 0 where
  pub points : ℕ
  pub edges : ℕ
  pub kept : Kept
  pub path : List Edge

abbrev pub untouched_of : LiveState → LiveUntouched
untouched_of n = record { points = n.max_points; edges = n.max_edges; kept = n.kept; path = n.path }

-- what is kept of a refusal is left alone with the rest
pub refutes_by : (a b : LiveState) (late : Net) → untouched_of a ≡ untouched_of b → KeptRefutes late a.kept a.path → KeptRefutes late b.kept b.path
refutes_by a b late e h = subst (λ (x : LiveUntouched). KeptRefutes late x.kept x.path) e h
