-- The next hold of the newest action at a place of its order, with the edges to its neighbours.
use Rattle.std.proofs.Common.{◌≡◌, ℕ, suc, ◌+◌, ◌<◌, ◌≤◌, List, [], ◌∷◌, ◌++◌, length, refl, ap, sym, ◌∙◌, subst, arith, Some, None, All}
use Rattle.std.specs.Prelude.{slice_set}
use Rattle.std.specs.List.{slice_get, insert}
use Rattle.std.proofs.lemmas.List.{length-map}
use Rattle.std.proofs.lemmas.Option.{slice_get_within}
use Rattle.tp_base.specs.Readings.{Reading}
use Rattle.tp_base.specs.declared.edges.Edge.{Edge}
use Rattle.tp_base.specs.declared.edges.PointId.{PointId}
use Rattle.tp_base.specs.Net.{Net, HasLeast, HasNoSolution, with_edges}
use Rattle.tp_base.specs.Grows.{IsKnown}
use Rattle.tp_machine.proofs.MachineFacts.{is_machine}
use Rattle.tp_machine.specs.Modes.{gap_at}
use Rattle.tp_machine.specs.declared.machine.Machine.{Machine}
use Rattle.tp_schedule.specs.Answers.{kept_of}
use Rattle.tp_schedule.specs.Spots.{Spot, Ticks}
use Rattle.tp_schedule.specs.Spots.Spot.{own}
use Rattle.tp_constraints.specs.Hops.{Hop, IsHop, PlaceHops, place_hops}
use Rattle.tp_constraints.specs.Nets.{PlaceNet, BoardLate}
use Rattle.tp_constraints.specs.Suffixes.{SuffixTimes, suffix_low, choice_slot, order_in, with_place}
use Rattle.tp_placing.specs.Boards.{BoardValue, suffix_after}
use Rattle.tp_placing.specs.Causes.{ArePlain, IsNamedHop, causes_around, step_tag}
use Rattle.tp_placing.specs.Edges.{edges_around, held_before, held_behind}
use Rattle.tp_placing.specs.Reasons.{IsReason, IsShown}
use Rattle.tp_placing.specs.LoadedBoard.{AreCaused, choices_of, IsAtWith, AreSlots, table_with}
use Rattle.tp_placing.specs.declared.candidates.Candidate.{Candidate}
use Rattle.tp_placing.specs.declared.causes.EdgeCause.{EdgeCause}
use Rattle.tp_placing.specs.declared.parts.Step.{Step}
use Rattle.tp_placing.proofs.BoardFacts.{steps-room}
use Rattle.tp_placing.proofs.CauseFacts.{AreMade, Keeps, caused-kept, caused-more, hops-more, keeps-around}
use Rattle.tp_placing.proofs.NeighbourFacts.{two-neighbours, can-neighbours, slots-known}
use Rattle.tp_placing.proofs.NewestFacts.{IsNext, four, known, offsets, order, places, resource, suffix}
use Rattle.tp_placing.proofs.PartFacts.{shown-whole}
use Rattle.tp_placing.proofs.PlaceFacts.{edges-of, end-own, place-at, place-hops, place-net, place-refused, start-own}
use Rattle.tp_placing.proofs.SlotFacts.{length-slots}

module _ {N : Type 0} {reading : Reading N} {b : BoardValue N} {m : Machine} {hold place : ℕ} {c : Candidate} (k : IsNext reading b m hold place c) where
  abbrev points : List Spot
  points = table_with b.plans (suc (suc (length (places k).choices)))

  abbrev pub edges_here : List Edge
  edges_here = edges_around (gap_at m c.hold.rule.resource.0) (held_before b.held (order k) place) c.hold (held_behind b.held (order k) place) (step_tag (length b.steps))

  abbrev pub causes_here : List EdgeCause
  causes_here = causes_around (held_before b.held (order k) place) c.hold (held_behind b.held (order k) place) (step_tag (length b.steps)) b.causes

  pub slots-here : AreSlots points b.held (order k) (order_in m b.plans (suffix k) c.hold.rule.resource.0)
  slots-here = (places k).at.orders c.hold.rule.resource.0 (resource k)

  pub fits-here : place ≤ length (order k)
  fits-here = let l = length-slots points b.held (order k) (order_in m b.plans (suffix k) c.hold.rule.resource.0) slots-here in let w = (places k).within in omega arith

  pub numbers-here : All (λ id. id < length b.held) (order k)
  numbers-here = slots-known points b.held (order k) (order_in m b.plans (suffix k) c.hold.rule.resource.0) slots-here

  few-places : length (places k).choice.places < 4
  few-places = let e = (places k).next in let f = four k in omega arith

  pub start-here : slice_get points c.hold.start.0 ≡ Some (own (suc (length (places k).choices)))
  start-here = start-own m b.plans k.ask (places k).choice (places k).choices (places k).rooms (places k).stopped c.hold.rule place (places k).is_rule b.steps (reading.net b.net) b.orders.orders b.held c.hold c.newest (places k).at (places k).hand (places k).some (known k) (resource k) (places k).within few-places fits-here refl k.is.start k.is.end

  pub end-here : slice_get points c.hold.end.0 ≡ Some (own (length (places k).choices))
  end-here = end-own m b.plans k.ask (places k).choice (places k).choices (places k).rooms (places k).stopped c.hold.rule place (places k).is_rule b.steps (reading.net b.net) b.orders.orders b.held c.hold c.newest (places k).at (places k).hand (places k).some (known k) (resource k) (places k).within few-places fits-here refl k.is.start k.is.end

  lows-points : length (reading.net b.net).lows ≡ length points
  lows-points = ap length (places k).at.net.lows ∙ length-map points (suffix_low m b.plans k.ask (suffix k))

  pub can-points : All (IsKnown (length points)) edges_here
  can-points = can-neighbours (gap_at m c.hold.rule.resource.0) points b.held (order k) (order_in m b.plans (suffix k) c.hold.rule.resource.0) place c.hold (step_tag (length b.steps)) slots-here (places k).at.small (record {
    start = slice_get_within points c.hold.start.0 _ start-here;
    end = slice_get_within points c.hold.end.0 _ end-here;
    small = offsets k;
  }) ((is_machine m).gaps c.hold.rule.resource.0)

  pub can-here : All (IsKnown (length (reading.net b.net).lows)) edges_here
  can-here = subst (λ n. All (IsKnown n) edges_here) (sym lows-points) can-points

  pub refused-here : PlaceNet → BoardLate → HasNoSolution (with_edges (reading.net b.net) edges_here) → (t : Ticks) → ¬ SuffixTimes m b.plans k.ask (with_place place (suffix k)) t
  refused-here place_net late none =
      place-refused m b.plans k.ask (places k).choice (places k).choices (places k).rooms (places k).stopped c.hold.rule place (places k).is_rule b.steps (reading.net b.net) b.orders.orders b.held c.hold c.newest (places k).at (places k).hand (places k).some (known k) (resource k) (places k).within few-places fits-here refl k.is.start k.is.end
      place_net late (edges-of points edges_here can-points) none

  pub few-here : length b.steps + 1 ≤ 330
  few-here = steps-room (kept_of k.ask) (length b.steps) (suffix k) (places k).at.few_steps

  pub keeps-here : Keeps (length b.steps) b.causes causes_here
  keeps-here = let f = few-here in keeps-around (held_before b.held (order k) place) (held_behind b.held (order k) place) c.hold b.causes (length b.steps) (omega arith)

  made-here : ArePlain b.causes → AreMade (length b.steps + 1) b.plans causes_here edges_here (place_hops m c.hold.rule.resource.0 (order_in m b.plans (suffix k) c.hold.rule.resource.0) place (choice_slot c.hold.rule (length (places k).choices)))
  made-here plain =
      place-hops m b.plans k.ask (places k).choice (places k).choices (places k).rooms (places k).stopped c.hold.rule place (places k).is_rule b.steps (reading.net b.net) b.orders.orders b.held c.hold c.newest (places k).at (places k).hand (places k).some (known k) (resource k) (places k).within few-places fits-here refl k.is.start k.is.end
      b.causes plain few-here (edges-of points edges_here can-points)

  lift-here : PlaceHops → (os : List Hop) → All (IsHop m b.plans k.ask (suffix k)) os
      → All (IsHop m b.plans k.ask (with_place place (suffix k))) (os ++ place_hops m c.hold.rule.resource.0 (order_in m b.plans (suffix k) c.hold.rule.resource.0) place (choice_slot c.hold.rule (length (places k).choices)))
  lift-here law os all = law m b.plans k.ask (suffix k) (places k).choice (places k).choices c.hold.rule place os refl (places k).is_rule (places k).within all

  pub kept-here : ArePlain b.causes → AreCaused m b.plans k.ask b.causes b.steps (reading.net b.net) → AreCaused m b.plans k.ask causes_here b.steps (reading.net b.net)
  kept-here plain caused = caused-kept m b.plans k.ask (length b.steps) b.causes causes_here b.steps (reading.net b.net) keeps-here (omega arith) caused

  pub reason-shown : (refutes : N → Net → Type 0) (n : N) → PlaceNet → PlaceHops → ArePlain b.causes → AreCaused m b.plans k.ask b.causes b.steps (reading.net b.net) → IsShown refutes n (with_edges (reading.net b.net) edges_here)
      → IsReason refutes (record b { net = n; causes = causes_here; limit = None }) m k.ask (with_place place (suffix k))
  reason-shown refutes n place_net law plain caused shown = record {
    net = with_edges (reading.net b.net) edges_here;
    is_net = place-net m b.plans k.ask (places k).choice (places k).choices (places k).rooms (places k).stopped c.hold.rule place (places k).is_rule b.steps (reading.net b.net) b.orders.orders b.held c.hold c.newest (places k).at (places k).hand (places k).some (known k) (resource k) (places k).within few-places fits-here refl k.is.start k.is.end
        place_net (edges-of points edges_here can-points);
    hops = hops-more m b.plans k.ask (suffix k) (with_place place (suffix k)) (length b.steps + 1) causes_here (reading.net b.net).edges edges_here _
        (subst (λ y. All (IsNamedHop m b.plans k.ask y causes_here) (reading.net b.net).edges) (ap choices_of (places k).suffix) (kept-here plain caused).hops) (made-here plain) (lift-here law);
    no_limit = refl;
    shown = shown;
  }

  pub reason-here : (refutes : N → Net → Type 0) (n : N) → PlaceNet → PlaceHops → ArePlain b.causes → AreCaused m b.plans k.ask b.causes b.steps (reading.net b.net) → refutes n (with_edges (reading.net b.net) edges_here)
      → IsReason refutes (record b { net = n; causes = causes_here; limit = None }) m k.ask (with_place place (suffix k))
  reason-here refutes n place_net law plain caused refused = reason-shown refutes n place_net law plain caused (shown-whole refutes n (with_edges (reading.net b.net) edges_here) refused)

  pub caused-here : PlaceHops → ArePlain b.causes → AreCaused m b.plans k.ask b.causes b.steps (reading.net b.net) → (s : Step) → suffix_after (b.steps ++ s ∷ []) ≡ Some (with_place place (suffix k))
      → AreCaused m b.plans k.ask causes_here (b.steps ++ s ∷ []) (with_edges (reading.net b.net) edges_here)
  caused-here law plain caused s after =
      caused-more m b.plans k.ask (suffix k) (with_place place (suffix k)) causes_here b.steps s (reading.net b.net) (with_edges (reading.net b.net) edges_here) edges_here _
      (ap choices_of (places k).suffix) (ap choices_of after) refl (kept-here plain caused) (made-here plain) (lift-here law)

  pub placed-here : PlaceNet → HasLeast (with_edges (reading.net b.net) edges_here) → (s : Step) → s.newest ≡ c.newest.newest → s.first ≡ c.newest.first
      → IsAtWith m b.plans k.ask (Some (with_place place (suffix k))) (b.steps ++ s ∷ []) (with_edges (reading.net b.net) edges_here) (slice_set b.orders.orders c.hold.rule.resource.0 (insert (order k) place (length b.held))) (b.held ++ c.hold ∷ [])
  placed-here place_net solved s a f =
      place-at m b.plans k.ask (places k).choice (places k).choices (places k).rooms (places k).stopped c.hold.rule place (places k).is_rule b.steps (reading.net b.net) b.orders.orders b.held c.hold c.newest (places k).at (places k).hand (places k).some (known k) (resource k) (places k).within few-places fits-here refl k.is.start k.is.end
      place_net (edges-of points edges_here can-points) solved (offsets k) s (a ∙ (places k).hand.0, ap (λ (q : PointId). q.0) f ∙ (places k).hand.1)

  pub two-here : length edges_here ≤ 2
  two-here = two-neighbours (gap_at m c.hold.rule.resource.0) (held_before b.held (order k) place) (held_behind b.held (order k) place) c.hold (step_tag (length b.steps))
