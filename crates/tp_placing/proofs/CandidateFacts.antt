-- The next hold of the newest action, on a board that stands: what its edges are, and what there is once it is placed.
use Rattle.std.proofs.Common.{◌≡◌, ℕ, ◌+◌, ◌≤◌, List, [], ◌∷◌, length, refl, ap, sym, ◌∙◌, subst, arith, Some, None, IsSomeAnd}
use Rattle.tp_base.specs.Net.{Net, HasLeast, HasNoSolution, with_edges}
use Rattle.tp_base.specs.Readings.{Reading}
use Rattle.tp_machine.specs.declared.machine.Machine.{Machine}
use Rattle.tp_schedule.specs.Spots.{Ticks}
use Rattle.tp_timelines.specs.Orders.{Orders, total}
use Rattle.tp_constraints.specs.Hops.{PlaceHops}
use Rattle.tp_constraints.specs.Nets.{PlaceNet, BoardLate, BoardSolutions}
use Rattle.tp_constraints.specs.Suffixes.{Suffix, SuffixTimes, with_place}
use Rattle.tp_placing.specs.Boards.{BoardValue, after_change, past_of, side_by_side, suffix_after}
use Rattle.tp_placing.specs.Calls.{HasNoTimes}
use Rattle.tp_placing.specs.Candidates.{HasInserted, place_step}
use Rattle.tp_placing.specs.Causes.{causes_around}
use Rattle.tp_placing.specs.Edges.{edges_around, held_before, held_behind}
use Rattle.tp_placing.specs.Inside.{AreMarks, most_edges, most_holds, most_steps}
use Rattle.tp_placing.specs.Reasons.{HasReason, IsReason}
use Rattle.tp_placing.specs.LoadedBoard.{AreCaused, IsAtWith, Stands}
use Rattle.tp_placing.specs.declared.candidates.Candidate.{Candidate}
use Rattle.tp_placing.specs.declared.causes.EdgeCause.{EdgeCause}
use Rattle.tp_placing.specs.declared.neighbours.Neighbours.{Neighbours}
use Rattle.tp_placing.specs.declared.parts.Change.TheVariants.{Place}
use Rattle.tp_placing.specs.declared.parts.Held.{Held}
use Rattle.tp_placing.specs.declared.parts.Step.{Step}
use Rattle.tp_placing.proofs.CauseFacts.{Keeps}
use Rattle.tp_placing.proofs.NewestFacts.{IsNext, newest-is, order, places, suffix}
use Rattle.tp_placing.proofs.NextHold.{caused-here, causes_here, edges_here, few-here, keeps-here, placed-here, reason-here, refused-here}
use Rattle.tp_placing.proofs.PastFacts.{side-more}
use Rattle.tp_placing.proofs.StandFacts.{and-some, edge-room, has-times, stands-after, stands-still}
use Rattle.tp_placing.proofs.StepFacts.{suffix-push}

-- what is right for the net, the orders, the holds and the steps is right for equal ones
pub moved : (P : Net → List (List ℕ) → List Held → List Step → Type 0) (n n' : Net) (l l' : List (List ℕ)) (h h' : List Held) (s s' : List Step) → n' ≡ n → l' ≡ l → h' ≡ h → s' ≡ s → P n l h s → P n' l' h' s'
moved P n n' l l' h h' s s' e f g k p =
    subst (λ x. P x l' h' s') (sym e) (subst (λ x. P n x h' s') (sym f) (subst (λ x. P n l x s') (sym g) (subst (P n l h) (sym k) p)))

pub caused-moved : (P : List EdgeCause → Net → List Step → Type 0) (cs cs' : List EdgeCause) (n n' : Net) (s s' : List Step) → cs' ≡ cs → n' ≡ n → s' ≡ s → P cs n s → P cs' n' s'
caused-moved P cs cs' n n' s s' e f g p = subst (λ x. P x n' s') (sym e) (subst (λ x. P cs x s') (sym f) (subst (P cs n) (sym g) p))

-- the holds that were read are those before and behind a place of an order
pub record AreNeighbours (held : List Held) (order : List ℕ) (place : ℕ) (near : Neighbours) : Type 0 where
  pub before : near.before ≡ held_before held order place
  pub behind : near.behind ≡ held_behind held order place

module _ {N : Type 0} {reading : Reading N} {b : BoardValue N} {m : Machine} {hold place : ℕ} {c : Candidate} (k : IsNext reading b m hold place c) where
  -- ---- the edges and the causes of its neighbours
  pub edges-are : {near : Neighbours} → AreNeighbours b.held (order k) place near → edges_around c.gap near.before c.hold near.behind c.tag ≡ edges_here k
  edges-are w = λ i. edges_around (k.is.gap i) (w.before i) c.hold (w.behind i) (k.is.tag i)

  pub causes-are : {near : Neighbours} → AreNeighbours b.held (order k) place near → causes_around near.before c.hold near.behind c.tag b.causes ≡ causes_here k
  causes-are w = λ i. causes_around (w.before i) c.hold (w.behind i) (k.is.tag i) b.causes

  -- ---- how much there can be
  pub edges-fit : (most : ℕ) → length b.steps ≤ most_steps → most_edges ≤ most → length (reading.net b.net).edges + 2 ≤ most
  edges-fit most few wide = let h = edge-room b.steps (length (reading.net b.net).edges) most few (newest-is k).at.few_edges wide in omega arith

  pub steps-fit : length b.steps + 1 ≤ most_steps
  steps-fit = few-here k

  pub held-fit : length b.held + 1 ≤ most_holds
  held-fit = let f = (newest-is k).at.few_holds in let s = steps-fit in omega arith

  pub orders-fit : total b.orders.orders + 1 ≤ most_holds
  orders-fit = let f = held-fit in let e = (newest-is k).at.all_held in omega arith

  -- ---- where the hold has no times there
  pub none-here : ((t : Ticks) → ¬ SuffixTimes m b.plans k.ask (with_place place (suffix k)) t) → IsSomeAnd (suffix_after b.steps) (λ x. HasNoTimes m b (with_place place x))
  none-here none = and-some (suffix_after b.steps) (suffix k) _ (places k).suffix (and-some b.ask k.ask _ k.stands.asked none)

  pub shown-here : (refutes : N → Net → Type 0) (n : N) (made : List EdgeCause) → made ≡ causes_here k
      → IsReason refutes (record b { net = n; causes = causes_here k; limit = None }) m k.ask (with_place place (suffix k))
      → IsSomeAnd (suffix_after b.steps) (λ x. HasReason refutes m (record b { net = n; causes = made; limit = None }) (with_place place x))
  shown-here refutes n made e shown =
      let there = subst (λ cs. IsReason refutes (record b { net = n; causes = cs; limit = None }) m k.ask (with_place place (suffix k))) (sym e) shown in
      and-some (suffix_after b.steps) (suffix k) _ (places k).suffix (and-some b.ask k.ask _ k.stands.asked there)

  pub late-around : PlaceNet → BoardLate → HasNoSolution (with_edges (reading.net b.net) (edges_here k)) → IsSomeAnd (suffix_after b.steps) (λ x. HasNoTimes m b (with_place place x))
  late-around place_net late none = none-here (refused-here k place_net late none)

  pub shown-around : (refutes : N → Net → Type 0) (n : N) (made : List EdgeCause) → PlaceNet → PlaceHops → made ≡ causes_here k → refutes n (with_edges (reading.net b.net) (edges_here k))
      → IsSomeAnd (suffix_after b.steps) (λ x. HasReason refutes m (record b { net = n; causes = made; limit = None }) (with_place place x))
  shown-around refutes n made place_net law e refused = shown-here refutes n made e (reason-here k refutes n place_net law k.stands.plain k.stands.caused refused)

  pub still : (n : N) (made : List EdgeCause) → made ≡ causes_here k → reading.net n ≡ reading.net b.net → reading.past n ≡ reading.past b.net → Stands reading (record b { net = n; causes = made; limit = None }) m
  still n made e same past = (k.ask, stands-still reading b n made None m k.ask k.stands same past (subst (Keeps (length b.steps) b.causes) (sym e) (keeps-here k)))

  -- ---- where it is placed
  module _ (n : N) (made : List EdgeCause) (timelines : Orders) (held : List Held) (steps : List Step) (p : HasInserted c.newest c.hold place b.orders timelines b.held held b.steps steps) where
    pub suffix-then : (x : Suffix) → suffix_after b.steps ≡ Some x → suffix_after steps ≡ Some (with_place place x)
    suffix-then x e = ap suffix_after p.steps ∙ suffix-push b.steps (place_step c.newest place) ∙ ap (λ y. after_change y (Place place)) e

    pub suffix-now : IsSomeAnd (suffix_after b.steps) (λ x. suffix_after steps ≡ Some (with_place place x))
    suffix-now = and-some (suffix_after b.steps) (suffix k) _ (places k).suffix (suffix-then (suffix k) (places k).suffix)

    pub past-now : AreMarks b.marks (length b.steps) (length b.held) → reading.past n ≡ reading.past b.net → past_of reading (record b { net = n; orders = timelines; held = held; steps = steps; causes = made; limit = None }) ≡ past_of reading b
    past-now marks same =
        (λ i. side_by_side (p.held i) (p.steps i) (same i) (p.past i) b.marks)
        ∙ side-more b.held (c.hold ∷ []) b.steps (place_step c.newest place ∷ []) (reading.past b.net) b.orders.past b.marks (λ j q z. (marks.held_below j q z, marks.steps_below j q z))

    pub at-around : PlaceNet → reading.net n ≡ with_edges (reading.net b.net) (edges_here k) → HasLeast (reading.net n) → IsAtWith m b.plans k.ask (Some (with_place place (suffix k))) steps (reading.net n) timelines.orders held
    at-around place_net e solved =
        moved (λ x l h s. IsAtWith m b.plans k.ask (Some (with_place place (suffix k))) s x l h) _ (reading.net n) _ timelines.orders _ held _ steps e p.orders p.held p.steps
        (placed-here k place_net (subst HasLeast e solved) (place_step c.newest place) refl refl)

    pub caused-around : PlaceHops → reading.net n ≡ with_edges (reading.net b.net) (edges_here k) → made ≡ causes_here k → AreCaused m b.plans k.ask made steps (reading.net n)
    caused-around law e same =
        let now = ap suffix_after (sym p.steps) ∙ suffix-then (suffix k) (places k).suffix in
        caused-moved (λ cs x s. AreCaused m b.plans k.ask cs s x) _ made _ (reading.net n) _ steps same e p.steps
        (caused-here k law k.stands.plain k.stands.caused (place_step c.newest place) now)

    pub times-now : BoardSolutions → IsAtWith m b.plans k.ask (Some (with_place place (suffix k))) steps (reading.net n) timelines.orders held → IsSomeAnd (suffix_after steps) (λ x. IsSomeAnd b.ask (λ ask. (t : Ticks) × SuffixTimes m b.plans ask x t))
    times-now law at =
        and-some (suffix_after steps) (with_place place (suffix k)) _ (suffix-then (suffix k) (places k).suffix) (and-some b.ask k.ask _ k.stands.asked
        (has-times m b.plans k.ask (with_place place (suffix k)) steps (reading.net n) timelines.orders held law at))

    pub stands-now : AreMarks b.marks (length b.steps) (length b.held) → reading.past n ≡ reading.past b.net → made ≡ causes_here k → IsAtWith m b.plans k.ask (Some (with_place place (suffix k))) steps (reading.net n) timelines.orders held → AreCaused m b.plans k.ask made steps (reading.net n)
        → Stands reading (record b { net = n; orders = timelines; held = held; steps = steps; causes = made; limit = None }) m
    stands-now marks same e at caused = (
      k.ask,
      stands-after reading b n timelines held steps made m k.ask (with_place place (suffix k)) k.stands (past-now marks same) (suffix-then (suffix k) (places k).suffix) at (subst (Keeps (length b.steps) b.causes) (sym e) (keeps-here k)) caused,
    )
