-- What refutes a net is found while its times rise.
use Rattle.std.proofs.Common.{◌≡◌, ℕ, List, length, slice_index, Option, None, refl, sym}
use Rattle.std.specs.Prelude.{IfErr, OnErr, Result, Ok, Err}
use Rattle.tp_base.specs.declared.edges.Edge.{Edge}
use Rattle.tp_base.specs.declared.kept.Kept.{Kept}
use Rattle.tp_base.specs.declared.kept.Kept.TheVariants.{Nothing, Chain, Circle}
use Rattle.tp_base.specs.Net.{Net, HasNoSolution}
use Rattle.tp_base.specs.Grows.{IsSupported, Rises, PassesCap, cause_of}
use Rattle.tp_base.specs.Refute.{AreCauses, IsCauseChain, IsCauseCircle, IsLateChain, IsLateCircle}
use Rattle.tp_base.specs.Kept.{net_of, KeptRefutes}
use Rattle.tp_base.proofs.LeastFacts.{start_supported, supported_causes, late_chain, late_circle, passed_supported}
use Rattle.tp_base.proofs.RefuteFacts.{chain_refutes, circle_refutes}

pub kept_refutes : (net : Net) (kept : Kept) (edges : List Edge) → KeptRefutes net kept edges → HasNoSolution net
kept_refutes net Nothing edges h = absurd h
kept_refutes net (Chain first) edges h = chain_refutes net first.0 edges h
kept_refutes net Circle edges h = circle_refutes net edges h

-- times that rose from the lows, where no point had a cause
module _ (lows : List ℕ) (edges : List Edge) (causes0 causes : List (Option Edge)) (times : List ℕ) (none : (v : ℕ) → cause_of causes0 v ≡ None) (n : length causes ≡ length lows) where
  risen_supported : Rises edges lows causes0 times causes → IsSupported lows edges (slice_index times) (cause_of causes)
  risen_supported g = g.supported lows refl (start_supported lows edges causes0 (λ v _. none v))

  pub risen_causes : Rises edges lows causes0 times causes → AreCauses causes
  risen_causes g = supported_causes lows edges (slice_index times) causes (risen_supported g) (sym n)

  pub risen_circle : (caps : List ℕ) (es : List Edge) → Rises edges lows causes0 times causes → IsCauseCircle causes es → IsLateCircle (net_of lows caps edges) es
  risen_circle caps es g c = late_circle (net_of lows caps edges) (slice_index times) causes es (risen_supported g) (sym n) c

-- a time that has to pass its cap
module _ (lows caps : List ℕ) (edges : List Edge) (causes0 causes : List (Option Edge)) (p : ℕ) (none : (v : ℕ) → cause_of causes0 v ≡ None) (n : length causes ≡ length lows) (k : PassesCap caps edges lows causes0 causes p) where
  pub passed_causes : AreCauses causes
  passed_causes = supported_causes lows edges k.time causes (passed_supported lows caps edges causes0 causes p none k) (sym n)

  pub passed_chain : (first : ℕ) (es : List Edge) → IsCauseChain causes first es p → IsLateChain (net_of lows caps edges) first es
  passed_chain first es c = late_chain (net_of lows caps edges) k.time causes first p es (passed_supported lows caps edges causes0 causes p none k) (sym n) k.known k.passes c

  pub passed_circle : (es : List Edge) → IsCauseCircle causes es → IsLateCircle (net_of lows caps edges) es
  passed_circle es c = late_circle (net_of lows caps edges) k.time causes es (passed_supported lows caps edges causes0 causes p none k) (sym n) c

pub refuted_none : {T : Type 0} (net : Net) (r : Result T Kept) (es : List Edge) → IfErr r (λ kept. KeptRefutes net kept es) → OnErr r (HasNoSolution net)
refuted_none net (Ok x) es h = h
refuted_none net (Err kept) es h = kept_refutes net kept es h
