-- A goal that is opened.
use Rattle.std.proofs.Common.{◌≡◌, ℕ, ◌+◌, ◌≤◌, min, List, [], ◌∷◌, ◌++◌, length, map, refl, ap, sym, ◌∙◌, subst, arith, Some, None, All, false}
use Rattle.std.proofs.lemmas.List.{append-nil, length-append, length-map}
use Rattle.tp_base.specs.Readings.{Reading}
use Rattle.tp_base.specs.declared.edges.Edge.{Edge}
use Rattle.tp_base.specs.declared.edges.PointId.{PointId}
use Rattle.tp_base.specs.Net.{Net, HasLeast, HasNoSolution, with_point, with_edges}
use Rattle.tp_machine.specs.declared.machine.Machine.{Machine}
use Rattle.tp_schedule.specs.Choices.{start_floor}
use Rattle.tp_schedule.specs.Spots.{Spot, Ticks, slot_order}
use Rattle.tp_schedule.specs.Spots.Spot.{own}
use Rattle.tp_schedule.specs.Answers.{kept_of}
use Rattle.tp_schedule.specs.declared.parts.Ask.{Ask}
use Rattle.tp_timelines.specs.Orders.{order_on}
use Rattle.tp_constraints.specs.Gaps.{low_at, cap_at}
use Rattle.tp_constraints.specs.Hops.{GoalHops, hop, no_choices}
use Rattle.tp_constraints.specs.Hops.HopKind.{line}
use Rattle.tp_constraints.specs.Laws.{no_own}
use Rattle.tp_constraints.specs.Nets.{BoardLate, IsBoardNet}
use Rattle.tp_constraints.specs.Numbers.{gap_by, table_of}
use Rattle.tp_constraints.specs.Suffixes.{SuffixTimes, with_goal}
use Rattle.tp_placing.specs.declared.parts.Step.{Step}
use Rattle.tp_placing.specs.Boards.{BoardValue, suffix_after}
use Rattle.tp_placing.specs.Causes.{IsNamedHop, line_tag}
use Rattle.tp_placing.specs.Edges.{end_edges}
use Rattle.tp_placing.specs.LoadedBoard.{AreCaused, choices_of, IsAtWith, AreSlots, AreFewSteps, StandsOn, table_with, step_edges}
use Rattle.tp_placing.specs.Reasons.{IsReason}
use Rattle.tp_base.specs.Grows.{IsKnown}
use Rattle.tp_placing.proofs.CauseFacts.{AreMade, caused-more, hops-more}
use Rattle.tp_placing.proofs.PartFacts.{shown-point}
use Rattle.tp_placing.proofs.LineFacts.{end-tags, goal-can, goal-gaps, length-edges}
use Rattle.tp_placing.proofs.LowFacts.{low-is, none-with-sum}
use Rattle.tp_placing.proofs.NearFacts.{near_gaps}
use Rattle.tp_placing.proofs.NearNet.{near-hops, near-net}
use Rattle.tp_placing.proofs.PlaceFacts.{edges-of}
use Rattle.tp_placing.proofs.SlotFacts.{slots-grown}
use Rattle.tp_placing.proofs.StepFacts.{at-hand-push}
use Rattle.tp_placing.proofs.StepHops.{timelines-made}
use Rattle.tp_placing.proofs.TableFacts.{length-table}

-- with no step yet
pub no-steps : (count : ℕ) (steps : List Step) → AreFewSteps count None (length steps) → steps ≡ []
no-steps count [] few = refl
no-steps count (s ∷ steps) few = absurd (let f = few.0 in omega arith)

module _ {N : Type 0} (reading : Reading N) (b : BoardValue N) (m : Machine) (ask : Ask) (s : StandsOn reading b m ask) (closed : suffix_after b.steps ≡ None) (room : ℕ) where
  pub at-none : IsAtWith m b.plans ask None b.steps (reading.net b.net) b.orders.orders b.held
  at-none = subst (λ y. IsAtWith m b.plans ask y b.steps (reading.net b.net) b.orders.orders b.held) closed s.now

  pub empty : b.steps ≡ []
  empty = no-steps (kept_of ask) b.steps at-none.few_steps

  abbrev points : List Spot
  points = table_with b.plans 1

  abbrev pub es : List Edge
  es = end_edges ask b.plans b.firsts b.last

  pub lows-loaded : length (reading.net b.net).lows ≡ length (table_of b.plans)
  lows-loaded = ap length at-none.net.lows ∙ length-map (table_of b.plans) (low_at (ask.now + m.lead) (λ _. false) b.plans no_own)

  pub caps-lows : length (reading.net b.net).caps ≡ length (reading.net b.net).lows
  caps-lows = ap length at-none.net.caps ∙ length-map (table_of b.plans) (cap_at (ask.now + m.window) b.plans) ∙ sym lows-loaded

  can-points : All (IsKnown (length points)) es
  can-points = goal-can ask b.plans b.firsts b.last s.firsts s.last

  pub can-open : All (IsKnown (length (reading.net b.net).lows + 1)) es
  can-open = let l = length-table b.plans 1 in let k = lows-loaded in let e : length points ≡ length (reading.net b.net).lows + 1 = omega arith in subst (λ n. All (IsKnown n) es) e can-points

  pub few-edges : length (reading.net b.net).edges + length es ≤ 98600 + 257
  few-edges =
      let f = at-none.few_edges in
      let e = ap step_edges empty in
      let l = length-edges ask b.plans b.firsts b.last in
      let p = s.few_plans in
      omega arith

  abbrev sum : ℕ
  sum = start_floor m ask.now ask.origin + room

  abbrev horizon : ℕ
  horizon = ask.now + m.window

  abbrev Extended : ℕ → Net
  Extended low = with_edges (with_point (reading.net b.net) low horizon) es

  gaps : map (gap_by points) es ≡ near_gaps ask b.plans
  gaps = goal-gaps ask b.plans b.firsts b.last s.firsts s.last

  board-net : IsBoardNet m b.plans ask (with_goal room) points (Extended sum)
  board-net = near-net m b.plans ask room (table_of b.plans) (reading.net b.net) es at-none.net (edges-of points es can-points) gaps

  pub goal-refused : BoardLate → HasNoSolution (Extended (min sum (horizon + 1))) → (t : Ticks) → ¬ SuffixTimes m b.plans ask (with_goal room) t
  goal-refused late none = (late m b.plans ask (with_goal room) points (Extended sum) board-net).0 (none-with-sum (reading.net b.net) sum horizon es caps-lows none)

  tags : All (λ e. e.tag ≡ line_tag) es
  tags = end-tags ask b.plans b.firsts b.last

  made : (steps : ℕ) → AreMade steps b.plans b.causes es (map (hop line) (near_gaps ask b.plans))
  made steps = timelines-made steps b.plans 1 b.causes es (near_gaps ask b.plans) s.plain tags (edges-of points es can-points) gaps

  none-chosen : choices_of (suffix_after b.steps) ≡ no_choices
  none-chosen = ap choices_of closed

  pub goal-reason : (refutes : N → Net → Type 0) (n : N) → GoalHops → refutes n (Extended (min sum (horizon + 1)))
      → IsReason refutes (record b { net = n; limit = None }) m ask (with_goal room)
  goal-reason refutes n law refused = record {
    net = Extended sum;
    is_net = board-net;
    hops = hops-more m b.plans ask no_choices (with_goal room) 0 b.causes (reading.net b.net).edges es _ (subst (λ y. All (IsNamedHop m b.plans ask y b.causes) (reading.net b.net).edges) none-chosen s.caused.hops) (made 0) (near-hops law m b.plans ask room);
    no_limit = refl;
    shown = shown-point refutes n (reading.net b.net) (min sum (horizon + 1)) sum horizon es (omega arith) refused;
  }

  pub goal-caused : GoalHops → (step : Step) → suffix_after (b.steps ++ step ∷ []) ≡ Some (with_goal room) → AreCaused m b.plans ask b.causes (b.steps ++ step ∷ []) (Extended (min sum (horizon + 1)))
  goal-caused law step after =
      caused-more m b.plans ask no_choices (with_goal room) b.causes b.steps step (reading.net b.net) (Extended (min sum (horizon + 1))) es _
      none-chosen (ap choices_of after) refl s.caused (made (length b.steps + 1)) (near-hops law m b.plans ask room)

  pub goal-at : HasLeast (Extended (min sum (horizon + 1))) → (step : Step) → step.newest ≡ None → step.first ≡ b.last
      → IsAtWith m b.plans ask (Some (with_goal room)) (b.steps ++ step ∷ []) (Extended (min sum (horizon + 1))) b.orders.orders b.held
  goal-at solved step newest_is first_is =
      let low : min sum (horizon + 1) ≡ sum = low-is (reading.net b.net) sum horizon es caps-lows solved in
      let l = length-append b.steps (step ∷ []) in
      let none = ap length empty in
      let few : step_edges (b.steps ++ step ∷ []) ≡ 257 = ap (λ ss. step_edges (ss ++ step ∷ [])) empty in
      let ne = length-append (reading.net b.net).edges es in
      let fe = few-edges in
      let fh = at-none.few_holds in
      let fs = at-none.few_steps.1 in
      let last = s.last in
      subst (λ k. IsAtWith m b.plans ask (Some (with_goal room)) (b.steps ++ step ∷ []) (Extended k) b.orders.orders b.held) (sym low) (record {
        net = board-net;
        says = tt;
        solved = subst (λ k. HasLeast (Extended k)) low solved;
        orders = λ q known. subst (λ h. AreSlots points h (order_on b.orders.orders q) (slot_order m b.plans q)) (append-nil b.held) (slots-grown (table_of b.plans) (own 0 ∷ []) b.held [] (order_on b.orders.orders q) (slot_order m b.plans q) (at-none.orders q known));
        at_hand = at-hand-push (length (table_of b.plans)) (Some (with_goal room)) b.steps step (newest_is, (let f = ap (λ (p : PointId). p.0) first_is in omega arith));
        few_steps = (omega arith, omega arith, omega arith);
        few_edges = omega arith;
        few_holds = omega arith;
        all_held = at-none.all_held;
        small = at-none.small;
      })
