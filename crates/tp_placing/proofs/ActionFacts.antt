-- An action that is opened.
use Rattle.std.proofs.Common.{◌≡◌, ℕ, suc, ◌+◌, ◌-◌, ◌<◌, ◌≤◌, min, List, [], ◌∷◌, ◌++◌, length, map, refl, ap, sym, ◌∙◌, subst, arith, Some, None, All, IsSome, IsSomeAnd, pos, neg_ℤ, false}
use Rattle.std.specs.List.{slice_get}
use Rattle.std.proofs.lemmas.Int.{ints}
use Rattle.std.proofs.lemmas.Option.{slice_get_within}
use Rattle.std.proofs.lemmas.List.{length-append, length-map, append-nil}
use Rattle.std.proofs.lemmas.List.Elements.{All-cons, All-nil}
use Rattle.tp_base.specs.Readings.{Reading}
use Rattle.tp_base.specs.declared.edges.Edge.{Edge}
use Rattle.tp_base.specs.declared.edges.PointId.{PointId}
use Rattle.tp_base.specs.Net.{Net, HasLeast, HasNoSolution, with_point, with_edges}
use Rattle.tp_machine.specs.ModuleUse.{action_at}
use Rattle.tp_machine.specs.declared.parts.ActId.{ActId}
use Rattle.tp_machine.specs.declared.parts.Action.{Action}
use Rattle.tp_machine.specs.declared.parts.HoldRule.{HoldRule}
use Rattle.tp_machine.specs.declared.machine.Machine.{Machine}
use Rattle.tp_machine.proofs.MachineFacts.{is_machine}
use Rattle.tp_schedule.specs.Answers.{kept_of}
use Rattle.tp_schedule.specs.Choices.{start_floor, put_places}
use Rattle.tp_schedule.specs.Holders.{holds_of_act}
use Rattle.tp_schedule.specs.Spots.{Spot, Slot, Ticks}
use Rattle.tp_schedule.specs.Spots.Spot.{own}
use Rattle.tp_schedule.specs.declared.parts.Ask.{Ask}
use Rattle.tp_timelines.specs.Orders.{order_on}
use Rattle.tp_constraints.specs.Gaps.{range_gaps}
use Rattle.tp_constraints.specs.Hops.{Hop, IsHop, ActionHops, range_hops}
use Rattle.tp_constraints.specs.Nets.{ActionNet, BoardLate, IsBoardNet}
use Rattle.tp_constraints.specs.Numbers.{gap_by, table_of, IsEdgeOf}
use Rattle.tp_constraints.specs.Suffixes.{Suffix, SuffixTimes, order_in, suffix_cap, suffix_low, with_action}
use Rattle.tp_placing.specs.declared.parts.Step.{Step}
use Rattle.tp_placing.specs.Boards.{BoardValue, suffix_after}
use Rattle.tp_placing.specs.Calls.{CanGoOn}
use Rattle.tp_placing.specs.Causes.{ArePlain, IsNamedHop, back_tag, forward_tag}
use Rattle.tp_placing.specs.Edges.{duration_edges, edge_of}
use Rattle.tp_placing.specs.LoadedBoard.{AreCaused, choices_of, IsAtWith, IsAtHand, AreSlots, AreFewSteps, StandsOn, table_with}
use Rattle.tp_placing.specs.Reasons.{IsReason}
use Rattle.tp_base.specs.Grows.{IsKnown}
use Rattle.tp_placing.proofs.CauseFacts.{AreMade, caused-more, hops-more}
use Rattle.tp_placing.proofs.PartFacts.{shown-point}
use Rattle.tp_placing.proofs.BoardFacts.{choices-room}
use Rattle.tp_placing.proofs.LowFacts.{low-is, none-with-sum}
use Rattle.tp_placing.proofs.SlotFacts.{slots-grown}
use Rattle.tp_placing.proofs.StandFacts.{some-and, at-suffix}
use Rattle.tp_placing.proofs.StepFacts.{at-hand-push, edges-more, rooms-after, some-steps}
use Rattle.tp_placing.proofs.StepHops.{range-made}
use Rattle.tp_placing.proofs.TableFacts.{table-own, length-table}

put-none : (resource : ℕ) (from to : Spot) (rules : List HoldRule) (order : List Slot) → put_places resource from to rules [] order ≡ order
put-none resource from to [] order = refl
put-none resource from to (rule ∷ rules) order = refl

few-action : (ask : Ask) (steps : ℕ) (x : Suffix) (act : ActId) (room : ℕ) → CanGoOn ask x → AreFewSteps (kept_of ask) (Some x) steps → AreFewSteps (kept_of ask) (Some (with_action act room x)) (steps + 1)
few-action ask steps x act room can few =
    let a = few.0 in
    let going : x.stopped ≡ false = can.going in
    let a' = rw going at a in
    let b = choices-room x.choices few.2 in
    let c = can.fewer in
    (rw going (omega arith), omega arith, omega arith)

-- what is known where an action is opened
pub record OpensHere {N : Type 0} (net : N → Net) (b : BoardValue N) (m : Machine) (ask : Ask) (newest : Step) : Type 0 where
  pub x : Suffix
  pub suffix : suffix_after b.steps ≡ Some x
  pub can : CanGoOn ask x
  pub at : IsAtWith m b.plans ask (Some x) b.steps (net b.net) b.orders.orders b.held
  pub hand : IsAtHand (length (table_of b.plans)) (Some x) newest
  pub some : 0 < length b.steps

pub opens-here : {N : Type 0} (reading : Reading N) (b : BoardValue N) (m : Machine) (ask : Ask) (newest : Step) → StandsOn reading b m ask
    → IsSomeAnd b.ask (λ a. IsSomeAnd (suffix_after b.steps) (CanGoOn a)) → slice_get b.steps (length b.steps - 1) ≡ Some newest → OpensHere reading.net b m ask newest
opens-here reading b m ask newest s ready last =
    let at_ask : IsSomeAnd (suffix_after b.steps) (CanGoOn ask) = subst (λ o. IsSomeAnd o (λ a. IsSomeAnd (suffix_after b.steps) (CanGoOn a))) s.asked ready in
    let y = some-and (suffix_after b.steps) (CanGoOn ask) at_ask in
    let at = at-suffix reading b m ask y.0 s y.1 in
    record { x = y.0; suffix = y.1; can = y.2; at = at; hand = at.at_hand newest last; some = some-steps b.steps y.0 y.1 }

module _ {N : Type 0} (net : N → Net) (b : BoardValue N) (m : Machine) (ask : Ask) (newest : Step) (o : OpensHere net b m ask newest) (act : ActId) (a : Action) (is_action : action_at m act.0 ≡ Some a)
    (room : ℕ) (start : PointId) (start_is : start.0 ≡ newest.first.0 + 1) where
  abbrev count : ℕ
  count = length o.x.choices

  abbrev old : List Spot
  old = table_with b.plans (suc count)

  abbrev points : List Spot
  points = table_with b.plans (suc (suc count))

  abbrev pub es : List Edge
  es = duration_edges a start newest.first

  lows-old : length (net b.net).lows ≡ length old
  lows-old = ap length o.at.net.lows ∙ length-map old (suffix_low m b.plans ask o.x)

  pub caps-lows : length (net b.net).caps ≡ length (net b.net).lows
  caps-lows = ap length o.at.net.caps ∙ length-map old (suffix_cap m b.plans ask) ∙ sym lows-old

  length-points : length points ≡ length (net b.net).lows + 1
  length-points = let l = length-table b.plans (suc count) in let k = length-table b.plans (suc (suc count)) in let e = lows-old in omega arith

  from-own : slice_get points start.0 ≡ Some (own (suc count))
  from-own =
      let h = o.hand.1 in
      let e : start.0 ≡ length (table_of b.plans) + suc count = omega arith in
      ap (λ k. slice_get points k) e ∙ table-own b.plans (suc (suc count)) (suc count) (omega arith)

  to-own : slice_get points newest.first.0 ≡ Some (own count)
  to-own = ap (λ k. slice_get points k) o.hand.1 ∙ table-own b.plans (suc (suc count)) count (omega arith)

  small : (a.least ≤ 4096) × (a.most ≤ 4096)
  small = let r = (is_machine m).in_range act.0 a is_action in (omega (arith, r.0, r.1), r.1)

  pub can-open : All (IsKnown (length (net b.net).lows + 1)) es
  can-open =
      let s = slice_get_within points start.0 _ from-own in
      let t = slice_get_within points newest.first.0 _ to-own in
      let l = length-points in
      let least = small.0 in
      let most = small.1 in
      let P : Edge → Type 0 = IsKnown (length (net b.net).lows + 1) in
      let forth : P (edge_of start newest.first (pos a.least) forward_tag) = record { from = omega arith; to = omega arith; least = omega (arith, ints); most = omega (arith, ints) } in
      let back : P (edge_of newest.first start (neg_ℤ (pos a.most)) back_tag) = record { from = omega arith; to = omega arith; least = omega (arith, ints); most = omega (arith, ints) } in
      All-cons P (edge_of start newest.first (pos a.least) forward_tag) (edge_of newest.first start (neg_ℤ (pos a.most)) back_tag ∷ []) forth (All-cons P (edge_of newest.first start (neg_ℤ (pos a.most)) back_tag) [] back (All-nil P))

  edges-in : All (IsEdgeOf points) es
  edges-in =
      let s = slice_get_within points start.0 _ from-own in
      let t = slice_get_within points newest.first.0 _ to-own in
      All-cons (IsEdgeOf points) (edge_of start newest.first (pos a.least) forward_tag) (edge_of newest.first start (neg_ℤ (pos a.most)) back_tag ∷ []) (s, t) (All-cons (IsEdgeOf points) (edge_of newest.first start (neg_ℤ (pos a.most)) back_tag) [] (t, s) (All-nil (IsEdgeOf points)))

  gaps : map (gap_by points) es ≡ range_gaps (action_at m act.0) (own (suc count)) (own count)
  gaps = rw (from-own, to-own, is_action) refl

  abbrev sum : ℕ
  sum = start_floor m ask.now ask.origin + room

  abbrev horizon : ℕ
  horizon = ask.now + m.window

  abbrev Extended : ℕ → Net
  Extended low = with_edges (with_point (net b.net) low horizon) es

  board-net : ActionNet → IsBoardNet m b.plans ask (with_action act room o.x) points (Extended sum)
  board-net action_net = action_net m b.plans ask o.x act room old (net b.net) es (rooms-after b.steps o.x o.suffix) o.can.going (subst IsSome (sym is_action) refl) o.at.net edges-in gaps

  pub open-refused : ActionNet → BoardLate → HasNoSolution (Extended (min sum (horizon + 1))) → (t : Ticks) → ¬ SuffixTimes m b.plans ask (with_action act room o.x) t
  open-refused action_net late none = (late m b.plans ask (with_action act room o.x) points (Extended sum) (board-net action_net)).0 (none-with-sum (net b.net) sum horizon es caps-lows none)

  made : (steps : ℕ) → ArePlain b.causes → AreMade steps b.plans b.causes es (range_hops (action_at m act.0) (own (suc count)) (own count))
  made steps plain = subst (λ q. AreMade steps b.plans b.causes es (range_hops q (own (suc count)) (own count))) (sym is_action)
      (range-made steps b.plans (suc (suc count)) b.causes a start newest.first (own (suc count)) (own count) plain from-own to-own)

  lift : ActionHops → (os : List Hop) → All (IsHop m b.plans ask o.x) os → All (IsHop m b.plans ask (with_action act room o.x)) (os ++ range_hops (action_at m act.0) (own (suc count)) (own count))
  lift law os all = law m b.plans ask o.x act room os o.can.going all

  pub open-reason : (refutes : N → Net → Type 0) (n : N) → ActionNet → ActionHops → ArePlain b.causes → AreCaused m b.plans ask b.causes b.steps (net b.net)
      → refutes n (Extended (min sum (horizon + 1))) → IsReason refutes (record b { net = n; limit = None }) m ask (with_action act room o.x)
  open-reason refutes n action_net law plain caused refused = record {
    net = Extended sum;
    is_net = board-net action_net;
    hops = hops-more m b.plans ask o.x (with_action act room o.x) 0 b.causes (net b.net).edges es _ (subst (λ y. All (IsNamedHop m b.plans ask y b.causes) (net b.net).edges) (ap choices_of o.suffix) caused.hops) (made 0 plain) (lift law);
    no_limit = refl;
    shown = shown-point refutes n (net b.net) (min sum (horizon + 1)) sum horizon es (omega arith) refused;
  }

  pub open-caused : ActionHops → ArePlain b.causes → AreCaused m b.plans ask b.causes b.steps (net b.net) → (s : Step) → suffix_after (b.steps ++ s ∷ []) ≡ Some (with_action act room o.x)
      → AreCaused m b.plans ask b.causes (b.steps ++ s ∷ []) (Extended (min sum (horizon + 1)))
  open-caused law plain caused s after =
      caused-more m b.plans ask o.x (with_action act room o.x) b.causes b.steps s (net b.net) (Extended (min sum (horizon + 1))) es _
      (ap choices_of o.suffix) (ap choices_of after) refl caused (made (length b.steps + 1) plain) (lift law)

  orders-open : (q : ℕ) → q < length m.resources → AreSlots points b.held (order_on b.orders.orders q) (order_in m b.plans (with_action act room o.x) q)
  orders-open q known =
      let e : order_in m b.plans (with_action act room o.x) q ≡ order_in m b.plans o.x q = put-none q (own (suc count)) (own count) (holds_of_act (action_at m act.0)) (order_in m b.plans o.x q) in
      let grown = slots-grown old (own (suc count) ∷ []) b.held [] (order_on b.orders.orders q) (order_in m b.plans o.x q) (o.at.orders q known) in
      subst (AreSlots points b.held (order_on b.orders.orders q)) (sym e) (subst (λ h. AreSlots points h (order_on b.orders.orders q) (order_in m b.plans o.x q)) (append-nil b.held) grown)

  pub open-at : ActionNet → HasLeast (Extended (min sum (horizon + 1))) → (s : Step) → s.newest ≡ Some act → s.first ≡ start
      → IsAtWith m b.plans ask (Some (with_action act room o.x)) (b.steps ++ s ∷ []) (Extended (min sum (horizon + 1))) b.orders.orders b.held
  open-at action_net solved s newest_is first_is =
      let low : min sum (horizon + 1) ≡ sum = low-is (net b.net) sum horizon es caps-lows solved in
      let l = length-append b.steps (s ∷ []) in
      let e = edges-more b.steps s o.some in
      let ne = length-append (net b.net).edges es in
      let fe = o.at.few_edges in
      let fh = o.at.few_holds in
      let h = o.hand.1 in
      let f : s.first.0 ≡ length (table_of b.plans) + suc count = (let k = ap (λ (p : PointId). p.0) first_is in omega arith) in
      subst (λ k. IsAtWith m b.plans ask (Some (with_action act room o.x)) (b.steps ++ s ∷ []) (Extended k) b.orders.orders b.held) (sym low) (record {
        net = board-net action_net;
        says = tt;
        solved = subst (λ k. HasLeast (Extended k)) low solved;
        orders = orders-open;
        at_hand = at-hand-push (length (table_of b.plans)) (Some (with_action act room o.x)) b.steps s (newest_is, f);
        few_steps = subst (AreFewSteps (kept_of ask) (Some (with_action act room o.x))) (sym l) (few-action ask (length b.steps) o.x act room o.can o.at.few_steps);
        few_edges = omega arith;
        few_holds = omega arith;
        all_held = o.at.all_held;
        small = o.at.small;
      })
