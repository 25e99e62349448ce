-- The next hold of the newest action, tried at a place by the edge to the hold behind first.
use Rattle.std.proofs.Common.{◌≡◌, ℕ, ◌+◌, ◌≤◌, List, length, refl, ap, sym, ◌∙◌, subst, Some, None, All, IsSomeAnd}
use Rattle.tp_base.specs.Grows.{IsKnown}
use Rattle.tp_base.specs.Net.{Net, HasLeast, HasNoSolution, with_edges}
use Rattle.tp_base.specs.Readings.{Reading}
use Rattle.tp_base.specs.declared.edges.Edge.{Edge}
use Rattle.tp_machine.specs.Modes.{gap_at}
use Rattle.tp_machine.specs.declared.machine.Machine.{Machine}
use Rattle.tp_timelines.specs.Orders.{Orders}
use Rattle.tp_constraints.specs.Hops.{PlaceHops}
use Rattle.tp_constraints.specs.Nets.{PlaceNet, BoardLate}
use Rattle.tp_constraints.specs.Suffixes.{with_place}
use Rattle.tp_constraints.specs.Walks.{BeforeHops, BeforeNet, EarlierNet, StartHops, StartNet, WalkShut}
use Rattle.tp_placing.specs.Boards.{BoardValue, suffix_after}
use Rattle.tp_placing.specs.Calls.{HasNoTimes}
use Rattle.tp_placing.specs.Candidates.{HasInserted, place_step}
use Rattle.tp_placing.specs.Causes.{step_tag}
use Rattle.tp_placing.specs.Edges.{edge_until, edges_back, held_behind}
use Rattle.tp_placing.specs.Reasons.{HasReason}
use Rattle.tp_placing.specs.LoadedBoard.{AreCaused, IsAtWith}
use Rattle.tp_placing.specs.RefusedPlace.{HasNoTimesUpTo, HasReasonUpTo, IsPartReason, IsRefused, StandsBack}
use Rattle.tp_placing.specs.declared.candidates.Candidate.{Candidate}
use Rattle.tp_placing.specs.declared.causes.EdgeCause.{EdgeCause}
use Rattle.tp_placing.specs.declared.neighbours.Neighbours.{Neighbours}
use Rattle.tp_placing.specs.declared.parts.Held.{Held}
use Rattle.tp_placing.specs.declared.parts.Step.{Step}
use Rattle.tp_placing.proofs.BackFacts.{stands-back}
use Rattle.tp_placing.proofs.CandidateFacts.{AreNeighbours, caused-moved, moved, none-here, shown-here, suffix-then}
use Rattle.tp_placing.proofs.CauseFacts.{Keeps}
use Rattle.tp_placing.proofs.NewestFacts.{IsNext, order, places, suffix}
use Rattle.tp_placing.proofs.NextHold.{causes_here, keeps-here}
use Rattle.tp_placing.proofs.StandFacts.{and-some}
use Rattle.tp_placing.proofs.WalkFacts.{can-back, caused-back, edges_back_here, placed-back, reason-back, reason-until, refused-back, shut-back}

module _ {N : Type 0} {reading : Reading N} {b : BoardValue N} {m : Machine} {hold place : ℕ} {c : Candidate} (k : IsNext reading b m hold place c) where
  pub back-still : {A : Type 0} (untouched : N → A) (n : N) (made : List EdgeCause) → made ≡ causes_here k → reading.past n ≡ reading.past b.net → StandsBack reading untouched (record b { net = n; causes = made; limit = None }) m
  back-still untouched n made e past = stands-back reading untouched b n made m k.ask k.stands past (subst (Keeps (length b.steps) b.causes) (sym e) (keeps-here k))

  -- ---- the edges to the holds next to its place
  module _ {near : Neighbours} (w : AreNeighbours b.held (order k) place near) where
    abbrev pub back : List Edge
    back = edges_back c.gap near.before c.hold near.behind c.tag

    abbrev pub until : List Edge
    until = edge_until c.gap c.hold near.behind (c.tag + 1)

    back-is : back ≡ edges_back_here k
    back-is = λ i. edges_back (k.is.gap i) (w.before i) c.hold (w.behind i) (k.is.tag i)

    until-is : until ≡ edge_until (gap_at m c.hold.rule.resource.0) c.hold (held_behind b.held (order k) place) (step_tag (length b.steps) + 1)
    until-is = λ i. edge_until (k.is.gap i) c.hold (w.behind i) (k.is.tag i + 1)

    pub can-tried : All (IsKnown (length (reading.net b.net).lows)) back
    can-tried = subst (All (IsKnown (length (reading.net b.net).lows))) (sym back-is) (can-back k)

    -- ---- where the hold has no times there
    pub late-tried : PlaceNet → BoardLate → HasNoSolution (with_edges (reading.net b.net) back) → IsSomeAnd (suffix_after b.steps) (λ x. HasNoTimes m b (with_place place x))
    late-tried place_net late none =
        none-here k (refused-back k place_net late
        (subst (λ es. HasNoSolution (with_edges (reading.net b.net) es)) back-is none))

    pub shown-tried : (refutes : N → Net → Type 0) (n : N) (made : List EdgeCause) → PlaceNet → PlaceHops → made ≡ causes_here k → IsRefused refutes n (reading.net b.net) back
        → IsSomeAnd (suffix_after b.steps) (λ x. HasReason refutes m (record b { net = n; causes = made; limit = None }) (with_place place x))
    shown-tried refutes n made place_net law e refused =
        shown-here k refutes n made e (reason-back k refutes n place_net law k.stands.plain k.stands.caused
        (subst (IsRefused refutes n (reading.net b.net)) back-is refused))

    pub late-before : StartNet → BeforeNet → WalkShut → HasNoSolution (with_edges (reading.net b.net) until) → IsSomeAnd (suffix_after b.steps) (HasNoTimesUpTo m b place)
    late-before start law shut none =
        let shut-here = shut-back k start law shut
        (subst (λ es. HasNoSolution (with_edges (reading.net b.net) es)) until-is none) in
        and-some (suffix_after b.steps) (suffix k) _ (places k).suffix (and-some b.ask k.ask _ k.stands.asked shut-here)

    pub shown-before : (refutes : N → Net → Type 0) (n : N) (made : List EdgeCause) → StartNet → BeforeNet → EarlierNet → StartHops → BeforeHops → made ≡ causes_here k → refutes n (with_edges (reading.net b.net) until)
        → IsSomeAnd (suffix_after b.steps) (HasReasonUpTo refutes m (record b { net = n; causes = made; limit = None }) place)
    shown-before refutes n made start law earlier start_hops before_hops e refused =
        let shown = reason-until k refutes n start law earlier start_hops before_hops k.stands.plain k.stands.caused
        (subst (λ es. refutes n (with_edges (reading.net b.net) es)) until-is refused) in
        let there = subst (λ cs. (before : ℕ) → before ≤ place → IsPartReason refutes (record b { net = n; causes = cs; limit = None }) m k.ask (with_place before (suffix k))) (sym e) shown in
        and-some (suffix_after b.steps) (suffix k) _ (places k).suffix (and-some b.ask k.ask _ k.stands.asked there)

    -- ---- where it is placed
    module _ (n : N) (made : List EdgeCause) (timelines : Orders) (held : List Held) (steps : List Step) (p : HasInserted c.newest c.hold place b.orders timelines b.held held b.steps steps) where
      pub at-tried : PlaceNet → reading.net n ≡ with_edges (reading.net b.net) back → HasLeast (reading.net n) → IsAtWith m b.plans k.ask (Some (with_place place (suffix k))) steps (reading.net n) timelines.orders held
      at-tried place_net e solved =
          let e' = e ∙ ap (with_edges (reading.net b.net)) back-is in
          moved (λ x l h s. IsAtWith m b.plans k.ask (Some (with_place place (suffix k))) s x l h) _ (reading.net n) _ timelines.orders _ held _ steps e' p.orders p.held p.steps
          (placed-back k place_net (subst HasLeast e' solved) (place_step c.newest place) refl refl)

      pub caused-tried : PlaceHops → reading.net n ≡ with_edges (reading.net b.net) back → made ≡ causes_here k → AreCaused m b.plans k.ask made steps (reading.net n)
      caused-tried law e same =
          let e' = e ∙ ap (with_edges (reading.net b.net)) back-is in
          let now = ap suffix_after (sym p.steps) ∙ suffix-then k n made timelines held steps p (suffix k) (places k).suffix in
          caused-moved (λ cs x s. AreCaused m b.plans k.ask cs s x) _ made _ (reading.net n) _ steps same e' p.steps
          (caused-back k law k.stands.plain k.stands.caused (place_step c.newest place) now)
