-- A list that is stopped.
use Rattle.std.proofs.Common.{rules, suc, pos, ◌≡◌, ℕ, ◌+◌, ◌<◌, List, [], ◌∷◌, ◌++◌, length, map, refl, ap, sym, ◌∙◌, subst, arith, Some, None, All, IsFalse, IsSomeAnd, true, false, ◌-◌}
use Rattle.std.proofs.lemmas.List.{length-append}
use Rattle.std.proofs.lemmas.List.Elements.{All-nil, All-cons}
use Rattle.tp_base.specs.Readings.{Reading}
use Rattle.tp_base.specs.declared.edges.Edge.{Edge}
use Rattle.tp_base.specs.Net.{Net, HasLeast, HasNoSolution, with_edge}
use Rattle.tp_machine.specs.declared.machine.Machine.{Machine}
use Rattle.tp_schedule.specs.Answers.{IsAsked, kept_from, kept_of}
use Rattle.tp_machine.specs.declared.parts.State.{State}
use Rattle.tp_schedule.specs.declared.parts.Origin.{Origin}
use Rattle.tp_schedule.specs.declared.parts.Origin.TheVariants.{Feeder as FromFeeder, Front as FromFront}
use Rattle.tp_schedule.specs.Spots.{Ticks}
use Rattle.tp_schedule.specs.Spots.Spot.{kept, own}
use Rattle.tp_schedule.specs.declared.parts.Ask.{Ask}
use Rattle.tp_schedule.specs.declared.parts.Plan.{Plan}
use Rattle.tp_constraints.specs.Gaps.{gap}
use Rattle.tp_constraints.specs.Hops.{Hop, IsHop, StopHops, hop}
use Rattle.tp_constraints.specs.Hops.HopKind.{stop}
use Rattle.tp_constraints.specs.Numbers.{gap_by, table_of, IsEdgeOf}
use Rattle.tp_constraints.specs.Nets.{StopNet, BoardLate}
use Rattle.tp_constraints.specs.Suffixes.{Suffix, SuffixTimes, IsInFlight, stop_gaps, with_stop}
use Rattle.tp_placing.specs.declared.parts.Held.{Held}
use Rattle.tp_placing.specs.declared.parts.Step.{Step}
use Rattle.tp_placing.specs.LoadedBoard.{AreCaused, choices_of, StandsOn, IsAtWith, IsAtHand, table_with, AreFewSteps}
use Rattle.std.specs.List.{slice_get}
use Rattle.std.proofs.lemmas.Option.{slice_get_within}
use Rattle.tp_base.specs.declared.edges.PointId.{PointId}
use Rattle.tp_placing.specs.Causes.{ArePlain, IsNamedHop, stop_tag}
use Rattle.tp_placing.specs.Edges.{edge_of}
use Rattle.tp_placing.proofs.TableFacts.{table-left, table-own}
use Rattle.tp_placing.specs.Boards.{BoardValue, suffix_after}
use Rattle.tp_placing.specs.Reasons.{IsReason}
use Rattle.tp_placing.proofs.CauseFacts.{AreMade, caused-more, hops-more}
use Rattle.tp_placing.proofs.PartFacts.{whole-is-part}
use Rattle.tp_placing.proofs.StandFacts.{some-and, at-suffix}
use Rattle.tp_placing.proofs.StepFacts.{at-hand-push, edges-more, some-steps}
use Rattle.tp_placing.proofs.StepHops.{stop-made}

few-stop : (count steps : ℕ) (x : Suffix) → IsFalse x.stopped → AreFewSteps count (Some x) steps → AreFewSteps count (Some (with_stop x)) (steps + 1)
few-stop count steps x going few = let e : x.stopped ≡ false = search (rules, going) in let f = few.0 in let g = rw e at f in (omega arith, few.1, few.2)

pub stop-at : StopNet → (machine : Machine) (plans : List Plan) (ask : Ask) (x : Suffix) (steps : List Step) (n : Net) (timelines : List (List ℕ)) (holds : List Held) (s : Step) (e : Edge)
    → IsAsked machine plans ask → IsInFlight ask.origin → IsFalse x.stopped → 0 < length steps
    → IsAtWith machine plans ask (Some x) steps n timelines holds
    → IsEdgeOf (table_with plans (suc (length x.choices))) e → gap_by (table_with plans (suc (length x.choices))) e ≡ gap (own (length x.choices)) (kept ask.sheet (kept_of ask)) (pos 0)
    → HasLeast (with_edge n e) → IsAtHand (length (table_of plans)) (Some x) s
    → IsAtWith machine plans ask (Some (with_stop x)) (steps ++ s ∷ []) (with_edge n e) timelines holds
stop-at stop_net machine plans ask x steps n timelines holds s e asked flying going some at in' gap solved hand =
    let table = table_with plans (suc (length x.choices)) in
    let gaps : map (gap_by table) (e ∷ []) ≡ stop_gaps ask (length x.choices) true = ap (λ g. g ∷ []) gap in
    let l = length-append steps (s ∷ []) in
    let m = edges-more steps s some in
    let ne = length-append n.edges (e ∷ []) in
    let fe = at.few_edges in
    let fh = at.few_holds in
    record {
      net = stop_net machine plans ask x table n (e ∷ []) asked flying going at.net (All-cons (IsEdgeOf table) e [] in' (All-nil (IsEdgeOf table))) gaps;
      says = tt;
      solved = solved;
      orders = at.orders;
      at_hand = at-hand-push (length (table_of plans)) (Some (with_stop x)) steps s hand;
      few_steps = subst (AreFewSteps (kept_of ask) (Some (with_stop x))) (sym l) (few-stop (kept_of ask) (length steps) x going at.few_steps);
      few_edges = omega arith;
      few_holds = omega arith;
      all_held = at.all_held;
      small = at.small;
    }

-- the stop's edge is the gap to the front's end
module _ (m : Machine) (plans : List Plan) (ask : Ask) (x : Suffix) (first end : PointId) (first_is : first.0 ≡ length (table_of plans) + length x.choices) (end_is : slice_get (table_of plans) end.0 ≡ Some (kept ask.sheet (kept_of ask))) where
  from-own : slice_get (table_with plans (suc (length x.choices))) first.0 ≡ Some (own (length x.choices))
  from-own = ap (λ k. slice_get (table_with plans (suc (length x.choices))) k) first_is ∙ table-own plans (suc (length x.choices)) (length x.choices) (omega arith)

  to-kept : slice_get (table_with plans (suc (length x.choices))) end.0 ≡ Some (kept ask.sheet (kept_of ask))
  to-kept = table-left plans (suc (length x.choices)) end.0 (kept ask.sheet (kept_of ask)) end_is

  pub stop-edge : IsEdgeOf (table_with plans (suc (length x.choices))) (edge_of first end (pos 0) stop_tag)
  stop-edge = (
    slice_get_within (table_with plans (suc (length x.choices))) first.0 _ from-own,
    slice_get_within (table_with plans (suc (length x.choices))) end.0 _ to-kept,
  )

  pub stop-gap : gap_by (table_with plans (suc (length x.choices))) (edge_of first end (pos 0) stop_tag) ≡ gap (own (length x.choices)) (kept ask.sheet (kept_of ask)) (pos 0)
  stop-gap = rw (from-own, to-kept) refl

-- what is known where a list is stopped
pub record StopsHere {N : Type 0} (net : N → Net) (b : BoardValue N) (m : Machine) (ask : Ask) (newest : Step) (end : PointId) : Type 0 where
  pub x : Suffix
  pub suffix : suffix_after b.steps ≡ Some x
  pub going : IsFalse x.stopped
  pub flying : IsInFlight ask.origin
  pub at : IsAtWith m b.plans ask (Some x) b.steps (net b.net) b.orders.orders b.held
  pub hand : IsAtHand (length (table_of b.plans)) (Some x) newest
  pub some : 0 < length b.steps
  pub end_is : slice_get (table_of b.plans) end.0 ≡ Some (kept ask.sheet (kept_of ask))

kept-count : (origin : Origin) (state : State) (tick count : ℕ) → origin ≡ FromFront state tick count → (kept_from origin ≡ count) × IsInFlight origin
kept-count FromFeeder state tick count e = absurd cc
kept-count (FromFront s t n) state tick count e = (cc, tt)

pub stops-here : {N : Type 0} (reading : Reading N) (b : BoardValue N) (m : Machine) (ask : Ask) (newest : Step) (state : State) (tick count : ℕ) (end : PointId)
    → StandsOn reading b m ask → IsSomeAnd (suffix_after b.steps) (λ x. IsFalse x.stopped) → slice_get b.steps (length b.steps - 1) ≡ Some newest → ask.origin ≡ FromFront state tick count
    → slice_get (table_of b.plans) end.0 ≡ Some (kept ask.sheet count) → StopsHere reading.net b m ask newest end
stops-here reading b m ask newest state tick count end s going last origin at =
    let x = some-and (suffix_after b.steps) (λ x. IsFalse x.stopped) going in
    let k = kept-count ask.origin state tick count origin in
    record {
      x = x.0;
      suffix = x.1;
      going = x.2;
      flying = k.1;
      at = at-suffix reading b m ask x.0 s x.1;
      hand = (at-suffix reading b m ask x.0 s x.1).at_hand newest last;
      some = some-steps b.steps x.0 x.1;
      end_is = at ∙ ap (λ n. Some (kept ask.sheet n)) (sym k.0);
    }

-- the network with the stop's edge is that of the stopped list
module _ {N : Type 0} (net : N → Net) (b : BoardValue N) (m : Machine) (ask : Ask) (newest : Step) (end : PointId) (here : StopsHere net b m ask newest end) where
  abbrev edge : Edge
  edge = edge_of newest.first end (pos 0) stop_tag

  pub stop-solved : StopNet → IsAsked m b.plans ask → HasLeast (with_edge (net b.net) edge) → (s : Step) → s.first ≡ newest.first → s.newest ≡ newest.newest
      → IsAtWith m b.plans ask (Some (with_stop here.x)) (b.steps ++ s ∷ []) (with_edge (net b.net) edge) b.orders.orders b.held
  stop-solved stop_net asked solved s f a =
      stop-at stop_net m b.plans ask here.x b.steps (net b.net) b.orders.orders b.held s edge asked here.flying here.going here.some here.at
      (stop-edge m b.plans ask here.x newest.first end here.hand.1 here.end_is) (stop-gap m b.plans ask here.x newest.first end here.hand.1 here.end_is) solved
      (a ∙ here.hand.0, ap (λ (p : PointId). p.0) f ∙ here.hand.1)

  pub stop-refused : StopNet → BoardLate → IsAsked m b.plans ask → HasNoSolution (with_edge (net b.net) edge) → (t : Ticks) → ¬ SuffixTimes m b.plans ask (with_stop here.x) t
  stop-refused stop_net late asked none =
      let table = table_with b.plans (suc (length here.x.choices)) in
      let in' = stop-edge m b.plans ask here.x newest.first end here.hand.1 here.end_is in
      let same = stop-gap m b.plans ask here.x newest.first end here.hand.1 here.end_is in
      let n = stop_net m b.plans ask here.x table (net b.net) (edge ∷ []) asked here.flying here.going here.at.net (All-cons (IsEdgeOf table) edge [] in' (All-nil (IsEdgeOf table))) (ap (λ g. g ∷ []) same) in
      (late m b.plans ask (with_stop here.x) table (with_edge (net b.net) edge) n).0 none

  made : (steps : ℕ) → ArePlain b.causes → AreMade steps b.plans b.causes (edge ∷ []) (hop stop (gap (own (length here.x.choices)) (kept ask.sheet (kept_of ask)) (pos 0)) ∷ [])
  made steps plain = stop-made steps b.plans (suc (length here.x.choices)) b.causes newest.first end (own (length here.x.choices)) (kept ask.sheet (kept_of ask)) plain
      (from-own m b.plans ask here.x newest.first end here.hand.1 here.end_is) (to-kept m b.plans ask here.x newest.first end here.hand.1 here.end_is)

  lift : StopHops → (os : List Hop) → All (IsHop m b.plans ask here.x) os → All (IsHop m b.plans ask (with_stop here.x)) (os ++ hop stop (gap (own (length here.x.choices)) (kept ask.sheet (kept_of ask)) (pos 0)) ∷ [])
  lift law os all = law m b.plans ask here.x os here.going all

  pub stop-reason : (refutes : N → Net → Type 0) (n : N) → StopNet → StopHops → IsAsked m b.plans ask → ArePlain b.causes → AreCaused m b.plans ask b.causes b.steps (net b.net) → refutes n (with_edge (net b.net) edge)
      → IsReason refutes (record b { net = n; limit = None }) m ask (with_stop here.x)
  stop-reason refutes n stop_net law asked plain caused shown =
      let table = table_with b.plans (suc (length here.x.choices)) in
      let in' = stop-edge m b.plans ask here.x newest.first end here.hand.1 here.end_is in
      let gaps : map (gap_by table) (edge ∷ []) ≡ stop_gaps ask (length here.x.choices) true = ap (λ g. g ∷ []) (stop-gap m b.plans ask here.x newest.first end here.hand.1 here.end_is) in
      record {
        net = with_edge (net b.net) edge;
        is_net = stop_net m b.plans ask here.x table (net b.net) (edge ∷ []) asked here.flying here.going here.at.net (All-cons (IsEdgeOf table) edge [] in' (All-nil (IsEdgeOf table))) gaps;
        hops = hops-more m b.plans ask here.x (with_stop here.x) 0 b.causes (net b.net).edges (edge ∷ []) _ (subst (λ y. All (IsNamedHop m b.plans ask y b.causes) (net b.net).edges) (ap choices_of here.suffix) caused.hops) (made 0 plain) (lift law);
        no_limit = refl;
        shown = record { late = with_edge (net b.net) edge; shown = shown; part = whole-is-part (with_edge (net b.net) edge) };
      }

  pub stop-caused : StopHops → ArePlain b.causes → AreCaused m b.plans ask b.causes b.steps (net b.net) → (s : Step) → suffix_after (b.steps ++ s ∷ []) ≡ Some (with_stop here.x)
      → AreCaused m b.plans ask b.causes (b.steps ++ s ∷ []) (with_edge (net b.net) edge)
  stop-caused law plain caused s after =
      caused-more m b.plans ask here.x (with_stop here.x) b.causes b.steps s (net b.net) (with_edge (net b.net) edge) (edge ∷ []) _
      (ap choices_of here.suffix) (ap choices_of after) refl caused (made (length b.steps + 1) plain) (lift law)
