-- What a network keeps of a refusal.
use Rattle.std.specs.Prelude.{ℕ, List}
use Rattle.tp_base.specs.declared.edges.Edge.{Edge}
use Rattle.tp_base.specs.declared.kept.Kept.{Kept}
use Rattle.tp_base.specs.declared.kept.Kept.TheVariants.{Nothing, Chain, Circle}
use Rattle.tp_base.specs.Net.{Net}
use Rattle.tp_base.specs.Refute.{IsLateChain, IsLateCircle}

abbrev pub net_of : List ℕ → List ℕ → List Edge → Net
net_of lows caps edges = record { lows = lows; caps = caps; edges = edges }

-- the edges, with what is kept beside them, show that the net has no solution
abbrev pub KeptRefutes : Net → Kept → List Edge → Type 0
KeptRefutes net Nothing edges = ⊥
KeptRefutes net (Chain first) edges = IsLateChain net first.0 edges
KeptRefutes net Circle edges = IsLateCircle net edges
