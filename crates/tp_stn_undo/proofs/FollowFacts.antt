-- What shows that there is no solution, once points have risen.
use Rattle.std.proofs.Common.{◌≡◌, ℕ, List, length, slice_index, Option, ◌∙◌, sym, arith}
use Rattle.std.specs.Prelude.{IfNone, is_some, false, Some, None}
use Rattle.std.proofs.lemmas.Bool.{true≢false}
use Rattle.tp_base.specs.declared.edges.Edge.{Edge}
use Rattle.tp_base.specs.Grows.{IsSupported, PassesCap, cause_of}
use Rattle.tp_base.specs.Refute.{AreCauses, IsCauseChain, IsCauseCircle, IsLateChain, IsLateCircle}
use Rattle.tp_base.specs.Kept.{net_of}
use Rattle.tp_base.proofs.LeastFacts.{supported_causes, late_chain, late_circle}
use Rattle.tp_stn_undo.specs.declared.point_state.PointState.{PointState}
use Rattle.tp_stn_undo.specs.declared.link.Link.{Link}
use Rattle.tp_stn_undo.specs.States.{lows_of, times_of, edges_of, causes_of}
use Rattle.tp_stn_undo.specs.Propagation.{StatesRise}
use Rattle.tp_stn_undo.proofs.RaiseFacts.{times_len, lows_len, causes_len}

pub none_of : {X : Type 0} (o : Option X) (P : Type 0) → IfNone o P → is_some o ≡ false → P
none_of None P h e = h
none_of (Some x) P h e = absurd (true≢false e)

-- times and causes that are supported
abbrev pub Supported : List Link → List PointState → List PointState → Type 0
Supported links base states = IsSupported (lows_of base) (edges_of links) (slice_index (times_of states)) (cause_of (causes_of (edges_of links) states))

module _ (links : List Link) (states states' : List PointState) (caps : List ℕ) (s : Supported links states states) (n : length states' ≡ length states) where
  lens : length (lows_of states) ≡ length (causes_of (edges_of links) states')
  lens = lows_len states ∙ sym n ∙ sym (causes_len links states')

  base : length (lows_of states) ≡ length (times_of states)
  base = lows_len states ∙ sym (times_len states)

  pub risen_supported : StatesRise links states states' → Supported links states states'
  risen_supported g = g.supported (lows_of states) base s

  pub risen_causes : StatesRise links states states' → AreCauses (causes_of (edges_of links) states')
  risen_causes g = supported_causes (lows_of states) (edges_of links) (slice_index (times_of states')) (causes_of (edges_of links) states') (risen_supported g) lens

  pub risen_circle : StatesRise links states states' → (es : List Edge) → IsCauseCircle (causes_of (edges_of links) states') es → IsLateCircle (net_of (lows_of states) caps (edges_of links)) es
  risen_circle g es c = late_circle (net_of (lows_of states) caps (edges_of links)) (slice_index (times_of states')) (causes_of (edges_of links) states') es (risen_supported g) lens c

  module _ (p : ℕ) (k : PassesCap caps (edges_of links) (times_of states) (causes_of (edges_of links) states) (causes_of (edges_of links) states') p) where
    passed_supported : IsSupported (lows_of states) (edges_of links) k.time (cause_of (causes_of (edges_of links) states'))
    passed_supported = k.grows.supported (lows_of states) base s

    pub passed_causes : AreCauses (causes_of (edges_of links) states')
    passed_causes = supported_causes (lows_of states) (edges_of links) k.time (causes_of (edges_of links) states') passed_supported lens

    pub passed_chain : (first : ℕ) (es : List Edge) → IsCauseChain (causes_of (edges_of links) states') first es p → IsLateChain (net_of (lows_of states) caps (edges_of links)) first es
    passed_chain first es c =
        let h = k.known in
        let b = base in
        late_chain (net_of (lows_of states) caps (edges_of links)) k.time (causes_of (edges_of links) states') first p es passed_supported lens (omega arith) k.passes c

    pub passed_circle : (es : List Edge) → IsCauseCircle (causes_of (edges_of links) states') es → IsLateCircle (net_of (lows_of states) caps (edges_of links)) es
    passed_circle es c = late_circle (net_of (lows_of states) caps (edges_of links)) k.time (causes_of (edges_of links) states') es passed_supported lens c
