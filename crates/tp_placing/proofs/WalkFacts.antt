-- A hold that is tried at a place by the edge to the one behind first.
use Rattle.std.proofs.Common.{◌≡◌, ℕ, suc, ◌+◌, ◌<◌, ◌≤◌, ◌++◌, ◌∷◌, [], List, length, map, refl, ap, subst, arith, inl, Option, Some, None, All, Contains}
use Rattle.std.specs.Prelude.{slice_set}
use Rattle.std.specs.List.{slice_get, insert}
use Rattle.std.proofs.lemmas.List.{length-append}
use Rattle.std.proofs.lemmas.List.Elements.{All-cons, All-contains_itself, All-nil, Contains-append_left}
use Rattle.std.proofs.lemmas.Option.{slice_get_within}
use Rattle.tp_base.specs.declared.edges.Edge.{Edge}
use Rattle.tp_base.specs.Net.{Net, HasLeast, HasNoSolution, with_edges}
use Rattle.tp_base.specs.Readings.{Reading}
use Rattle.tp_machine.proofs.MachineFacts.{is_machine}
use Rattle.tp_machine.specs.Modes.{gap_at}
use Rattle.tp_machine.specs.declared.machine.Machine.{Machine}
use Rattle.tp_schedule.specs.Spots.{Spot, Slot, Ticks}
use Rattle.tp_constraints.specs.Hops.{PlaceHops, hop_until}
use Rattle.tp_constraints.specs.Nets.{PlaceNet, BoardLate}
use Rattle.tp_constraints.specs.Numbers.{IsEdgeOf, gap_by}
use Rattle.tp_constraints.specs.Suffixes.{SuffixTimes, choice_slot, gap_until, order_in, with_place}
use Rattle.tp_constraints.specs.Walks.{BeforeHops, BeforeNet, EarlierNet, IsNextHold, IsWalkNet, StartHops, StartNet, WalkShut}
use Rattle.tp_constraints.proofs.Lists.{All-split, all-by}
use Rattle.tp_placing.specs.declared.candidates.Candidate.{Candidate}
use Rattle.tp_placing.specs.declared.causes.EdgeCause.{EdgeCause}
use Rattle.tp_placing.specs.declared.parts.Held.{Held}
use Rattle.tp_placing.specs.declared.parts.Step.{Step}
use Rattle.tp_placing.specs.Boards.{BoardValue, suffix_after}
use Rattle.tp_placing.specs.Causes.{ArePlain, IsNamedHop, step_tag}
use Rattle.tp_placing.specs.Edges.{edge_after, edge_until, edges_around, edges_back, hold_edge, held_before, held_behind}
use Rattle.tp_placing.specs.Reasons.{IsReason}
use Rattle.tp_placing.specs.LoadedBoard.{AreCaused, IsAtWith, choices_of, table_with}
use Rattle.tp_base.specs.Grows.{IsKnown}
use Rattle.tp_placing.specs.RefusedPlace.{IsRefused}
use Rattle.tp_placing.specs.RefusedPlace.{IsPartReason}
use Rattle.tp_placing.proofs.CauseFacts.{AreMade, IsSafeTag, behind-around, hops-more, length-around}
use Rattle.tp_placing.proofs.NeighbourFacts.{can-neighbours}
use Rattle.tp_placing.proofs.NewestFacts.{IsNext, offsets, order, places, suffix}
use Rattle.tp_placing.proofs.NextHold.{can-here, can-points, caused-here, causes_here, edges_here, end-here, few-here, kept-here, placed-here, reason-shown, refused-here, slots-here, start-here}
use Rattle.tp_placing.proofs.PartFacts.{shown-edges}
use Rattle.tp_placing.proofs.PlaceFacts.{edges-of}
use Rattle.tp_placing.proofs.SlotFacts.{neighbour-gaps, slots-at, until-gap}
use Rattle.tp_placing.proofs.StepHops.{until-hop}
use Rattle.tp_placing.proofs.SwapFacts.{at-swapped, caused-swapped, least-swapped, none-there, shown-there, swapped}

-- the edge to the hold behind has its cause
until-tags : (P : ℕ → Type 0) (g : ℕ) (h : Held) (behind : Option Held) (tag : ℕ) → P tag → All (λ e. P e.tag) (edge_until g h behind tag)
until-tags P g h None tag p = All-nil (λ e. P e.tag)
until-tags P g h (Some y) tag p = All-cons (λ e. P e.tag) (hold_edge g h y tag) [] p (All-nil (λ e. P e.tag))

module _ {N : Type 0} {reading : Reading N} {b : BoardValue N} {m : Machine} {hold place : ℕ} {c : Candidate} (k : IsNext reading b m hold place c) where
  abbrev gap : ℕ
  gap = gap_at m c.hold.rule.resource.0

  abbrev tag : ℕ
  tag = step_tag (length b.steps)

  abbrev before : Option Held
  before = held_before b.held (order k) place

  abbrev behind : Option Held
  behind = held_behind b.held (order k) place

  abbrev until : List Edge
  until = edge_until gap c.hold behind (tag + 1)

  abbrev after : List Edge
  after = edge_after gap before c.hold tag

  abbrev pub edges_back_here : List Edge
  edges_back_here = edges_back gap before c.hold behind tag

  abbrev around : List Edge
  around = edges_here k

  there : All (Contains around) edges_back_here
  there = swapped until after

  back : All (Contains edges_back_here) around
  back = swapped after until

  -- as with the edges in the other (order k)
  pub can-back : All (IsKnown (length (reading.net b.net).lows)) edges_back_here
  can-back = all-by (IsKnown (length (reading.net b.net).lows)) edges_back_here around there (can-here k)

  pub refused-back : PlaceNet → BoardLate → HasNoSolution (with_edges (reading.net b.net) edges_back_here) → (t : Ticks) → ¬ SuffixTimes m b.plans k.ask (with_place place (suffix k)) t
  refused-back place_net late none = refused-here k place_net late (none-there (reading.net b.net) around edges_back_here there none)

  pub reason-back : (refutes : N → Net → Type 0) (n : N) → PlaceNet → PlaceHops → ArePlain b.causes → AreCaused m b.plans k.ask b.causes b.steps (reading.net b.net) → IsRefused refutes n (reading.net b.net) edges_back_here
      → IsReason refutes (record b { net = n; causes = causes_here k; limit = None }) m k.ask (with_place place (suffix k))
  reason-back refutes n place_net law plain caused refused =
      reason-shown k refutes n place_net law plain caused (shown-there (reading.net b.net) around edges_back_here there refutes n (shown-edges refutes n (reading.net b.net) edges_back_here refused))

  same-length : length edges_back_here ≡ length around
  same-length = let a = length-append until after in let c = length-append after until in omega (arith, a, c)

  pub placed-back : PlaceNet → HasLeast (with_edges (reading.net b.net) edges_back_here) → (s : Step) → s.newest ≡ c.newest.newest → s.first ≡ c.newest.first
      → IsAtWith m b.plans k.ask (Some (with_place place (suffix k))) (b.steps ++ s ∷ []) (with_edges (reading.net b.net) edges_back_here) (slice_set b.orders.orders c.hold.rule.resource.0 (insert (order k) place (length b.held))) (b.held ++ c.hold ∷ [])
  placed-back place_net solved s a f =
      at-swapped (reading.net b.net) around edges_back_here there back m b.plans k.ask (with_place place (suffix k)) (b.steps ++ s ∷ []) (slice_set b.orders.orders c.hold.rule.resource.0 (insert (order k) place (length b.held))) (b.held ++ c.hold ∷ []) same-length
      (placed-here k place_net (least-swapped (reading.net b.net) edges_back_here around back there solved) s a f)

  pub caused-back : PlaceHops → ArePlain b.causes → AreCaused m b.plans k.ask b.causes b.steps (reading.net b.net) → (s : Step) → suffix_after (b.steps ++ s ∷ []) ≡ Some (with_place place (suffix k))
      → AreCaused m b.plans k.ask (causes_here k) (b.steps ++ s ∷ []) (with_edges (reading.net b.net) edges_back_here)
  caused-back law plain caused s is =
      caused-swapped (reading.net b.net) around edges_back_here there back m b.plans k.ask (causes_here k) (b.steps ++ s ∷ []) (caused-here k law plain caused s is)

  -- the edge to the hold behind alone
  abbrev table : List Spot
  table = table_with b.plans (suc (suc (length (places k).choices)))

  abbrev slots : List Slot
  slots = order_in m b.plans (suffix k) c.hold.rule.resource.0

  abbrev slot : Slot
  slot = choice_slot c.hold.rule (length (places k).choices)

  next : IsNextHold m (suffix k) slot
  next = record { choice = (places k).choice; choices = (places k).choices; newest = refl; is_rule = (places k).is_rule; is_slot = refl }

  until-known : All (IsEdgeOf table) until
  until-known = (All-split (IsEdgeOf table) after until (edges-of table around (can-points k))).1

  until-gaps : map (gap_by table) until ≡ gap_until gap slot (slice_get slots place)
  until-gaps = until-gap gap table b.held behind (slice_get slots place) c.hold slot (slots-at table b.held (order k) slots place (slots-here k)) refl (start-here k) (end-here k) (tag + 1)

  walk-net : StartNet → BeforeNet → IsWalkNet m b.plans k.ask (suffix k) slot place table (with_edges (reading.net b.net) until)
  walk-net start law =
      law m b.plans k.ask (suffix k) slot place (length slots) table (reading.net b.net) until (places k).within (start m b.plans k.ask (suffix k) slot table (reading.net b.net) (places k).at.net) until-known until-gaps

  pub shut-back : StartNet → BeforeNet → WalkShut → HasNoSolution (with_edges (reading.net b.net) until) → (earlier : ℕ) → earlier ≤ place → (t : Ticks) → ¬ SuffixTimes m b.plans k.ask (with_place earlier (suffix k)) t
  shut-back start law shut none = shut m b.plans k.ask (suffix k) slot place table (with_edges (reading.net b.net) until) next (places k).within (walk-net start law) none

  abbrev causes : List EdgeCause
  causes = causes_here k

  made-until : ArePlain b.causes → AreMade (length b.steps + 1) b.plans causes until (hop_until m c.hold.rule.resource.0 slot (slice_get slots place))
  made-until plain =
      let few = few-here k in
      let l = length-around before behind c.hold b.causes tag in
      let s = plain.slots in
      record {
        hops = until-hop m b.plans (suc (suc (length (places k).choices))) b.held c.hold.rule.resource.0 c.hold slot causes refl refl (start-here k) (end-here k) behind (slice_get slots place) (tag + 1) (slots-at table b.held (order k) slots place (slots-here k))
            (λ y e. behind-around before behind c.hold b.causes tag y e (omega (arith, few, s))) until-known;
        tags = until-tags (λ t. t < length causes) gap c.hold behind (tag + 1) (omega (arith, few, l, s));
        safe = until-tags (λ t. IsSafeTag (length b.steps + 1) t) gap c.hold behind (tag + 1) (inl (omega arith));
      }

  -- each edge so far is a hop with the hold at any place before
  hops-back : StartHops → BeforeHops → ArePlain b.causes → AreCaused m b.plans k.ask b.causes b.steps (reading.net b.net) → (earlier : ℕ) → earlier ≤ place
      → All (IsNamedHop m b.plans k.ask (with_place earlier (suffix k)) causes) ((reading.net b.net).edges ++ until)
  hops-back start law plain caused earlier le =
      hops-more m b.plans k.ask (suffix k) (with_place earlier (suffix k)) (length b.steps + 1) causes (reading.net b.net).edges until _
      (subst (λ y. All (IsNamedHop m b.plans k.ask y causes) (reading.net b.net).edges) (ap choices_of (places k).suffix) (kept-here k plain caused).hops) (made-until plain)
      (λ os all i d w. law m b.plans k.ask (suffix k) slot place (length slots) os next (places k).within (start m b.plans k.ask (suffix k) slot os next all) i d w earlier le)

  pub reason-until : (refutes : N → Net → Type 0) (n : N) → StartNet → BeforeNet → EarlierNet → StartHops → BeforeHops → ArePlain b.causes → AreCaused m b.plans k.ask b.causes b.steps (reading.net b.net) → refutes n (with_edges (reading.net b.net) until)
      → (earlier : ℕ) → earlier ≤ place → IsPartReason refutes (record b { net = n; causes = causes; limit = None }) m k.ask (with_place earlier (suffix k))
  reason-until refutes n start law earlier_net start_hops before_hops plain caused shown earlier le =
      let es = edges_around gap (held_before b.held (order k) earlier) c.hold (held_behind b.held (order k) earlier) tag in
      let can = can-neighbours gap table b.held (order k) slots earlier c.hold tag (slots-here k) (places k).at.small (record {
        start = slice_get_within table c.hold.start.0 _ (start-here k);
        end = slice_get_within table c.hold.end.0 _ (end-here k);
        small = offsets k;
      }) ((is_machine m).gaps c.hold.rule.resource.0) in
      let gaps = neighbour-gaps gap table b.held (order k) slots earlier c.hold slot (slots-here k) refl (start-here k) (end-here k) tag in
      record {
        net = with_edges (with_edges (reading.net b.net) until) es;
        is_net = earlier_net m b.plans k.ask (suffix k) slot place earlier table (with_edges (reading.net b.net) until) es next (places k).within le (walk-net start law) (edges-of table es can) gaps;
        late = with_edges (reading.net b.net) until;
        part = record {
          points = refl;
          lows = λ i w. omega arith;
          caps = refl;
          edges = λ j d w. Contains-append_left ((reading.net b.net).edges ++ until) es _ (All-contains_itself ((reading.net b.net).edges ++ until) j d w);
        };
        hops = hops-back start_hops before_hops plain caused earlier le;
        no_limit = refl;
        shown = shown;
      }
