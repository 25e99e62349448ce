-- Bounds that move round the time of a point.
use Rattle.std.proofs.Common.{◌≡◌, ℕ, ◌<◌, ◌≤◌, List, [], length, slice_index, get_or, set, subst, sym, ◌∙◌, refl, arith}
use Rattle.std.proofs.lemmas.List.{length-set, map-set}
use Rattle.std.proofs.Math.Seq.{map-set_same}
use Rattle.std.specs.List.{All}
use Rattle.tp_base.specs.Grows.{IsKnown}
use Rattle.tp_base.specs.Net.{IsLeast}
use Rattle.tp_base.specs.Kept.{net_of}
use Rattle.tp_base.proofs.BoundFacts.{moved_least}
use Rattle.tp_stn_undo.specs.declared.point_state.PointState.{PointState}
use Rattle.tp_stn_undo.specs.declared.link.Link.{Link}
use Rattle.tp_stn_undo.specs.States.{IsSound, edges_of, lows_of, times_of}
use Rattle.tp_stn_undo.proofs.CauseFacts.{no_state}
use Rattle.tp_stn_undo.proofs.LiftFacts.{lifts_same}
use Rattle.tp_stn_undo.proofs.RaiseFacts.{lows_len, time_at}

-- the point with another lower bound
abbrev pub lowered : List PointState → ℕ → ℕ → List PointState
lowered states p low = set states p (record { low = low; time = (get_or states p no_state).time; cause = (get_or states p no_state).cause })

pub lows_lowered : (states : List PointState) (p low : ℕ) → lows_of (lowered states p low) ≡ set (lows_of states) p low
lows_lowered states p low = map-set (λ (s : PointState). s.low) states p (record { low = low; time = (get_or states p no_state).time; cause = (get_or states p no_state).cause })

times_lowered : (states : List PointState) (p low : ℕ) → times_of (lowered states p low) ≡ times_of states
times_lowered states p low = map-set_same (λ (s : PointState). s.time) states p (record { low = low; time = (get_or states p no_state).time; cause = (get_or states p no_state).cause }) no_state refl

-- a least solution stays one
pub least_moved : (states : List PointState) (caps : List ℕ) (links : List Link) (p low cap : ℕ) (x : ℕ → ℕ) → length caps ≡ length states → p < length states → slice_index (lows_of states) p ≤ low → low ≤ x p → x p ≤ cap
    → IsLeast (net_of (lows_of states) caps (edges_of links)) x → IsLeast (net_of (lows_of (lowered states p low)) (set caps p cap) (edges_of links)) x
least_moved states caps links p low cap x same known more at_least at_most is =
    let n = lows_len states in
    subst (λ ls. IsLeast (net_of ls (set caps p cap) (edges_of links)) x) (sym (lows_lowered states p low))
    (moved_least (net_of (lows_of states) caps (edges_of links)) p low cap x (omega arith) (omega arith) more at_least at_most is)

pub sound_moved : (states : List PointState) (caps : List ℕ) (links : List Link) (p low cap : ℕ) → IsSound (record { states = states; caps = caps; links = links }) → p < length states → slice_index (lows_of states) p ≤ low
    → low ≤ slice_index (times_of states) p → slice_index (times_of states) p ≤ cap → IsSound (record { states = lowered states p low; caps = set caps p cap; links = links })
sound_moved states caps links p low cap is known more at_least at_most =
    let n = length-set states p (record { low = low; time = (get_or states p no_state).time; cause = (get_or states p no_state).cause }) in
    let m = length-set caps p cap in
    let at = time_at states p known in
    let lifts = lifts_same states p low known more [] (omega arith) in
    let s = is.caps in
    record {
      caps = m ∙ s ∙ sym n;
      known = subst (λ k. All (IsKnown k) (edges_of links)) (sym n) is.known;
      numbered = lifts.numbered links is.numbered;
      supported = lifts.supported links is.supported;
      least = subst (λ ts. IsLeast (net_of (lows_of (lowered states p low)) (set caps p cap) (edges_of links)) (slice_index ts)) (sym (times_lowered states p low))
          (least_moved states caps links p low cap (slice_index (times_of states)) is.caps known more at_least at_most is.least);
    }
