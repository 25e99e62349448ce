use Rattle.std.proofs.Common.{◌≡◌, ◌∙◌, ℕ, ◌+◌, ◌<◌, ◌≤◌, List, [], ◌∷◌, ◌++◌, All, Some, ap, arith, length, refl, subst, sym}
use Rattle.std.specs.Prelude.{slice_get}
use Rattle.std.proofs.lemmas.List.{length-append}
use Rattle.std.proofs.lemmas.Option.{slice_get_read}
use Rattle.tp_base.specs.Grows.{IsKnown}
use Rattle.tp_base.specs.Net.{IsSolution, Net, with_edges}
use Rattle.tp_base.specs.declared.edges.PointId.{PointId}
use Rattle.tp_schedule.specs.Spots.{slot_order}
use Rattle.tp_schedule.specs.declared.parts.Plan.{Plan}
use Rattle.tp_placing.specs.Boards.{past_of, side_by_side}
use Rattle.tp_placing.specs.AddedEdges.{IsBehind, KeepEdges}
use Rattle.tp_placing.specs.LoadedHolds.{held_from, ticks_in}
use Rattle.tp_placing.specs.LoadedBoard.{loaded_edges}
use Rattle.tp_placing.proofs.AddedPlanFacts.{AreOwn, CanPut, HasFewPoints, LoadPlans, can-put, few-more, load-all, own-are}
use Rattle.tp_placing.proofs.BehindFacts.{one-behind}
use Rattle.tp_placing.proofs.BoardFacts.{board-firsts, board-step}
use Rattle.tp_placing.proofs.FollowFacts.{no-past}
use Rattle.tp_placing.proofs.SlotResources.{order-on}
use Rattle.tp_placing.proofs.board.Board.add_last.Goals as goal
use Rattle.tp_placing.proofs.board.Board.add_last.Goals.{After-deref-8, After-add_plan-arg-1, After-put_holds-arg-3-1}

pub index-plan-requires : goal.index-plan-requires
index-plan-requires g c =
    let b = rw (← c.self.view_is) at c.requires.behind in
    let within : length c.self.inside.firsts.items < length c.self.inside.plans.items = one-behind _ _ _ _ _ _ _ _ _ b in
    let l = c.len-at.ensures in
    let o = c.self.inside.firsts.ok.0 in
    let q = c.self.inside.plans.ok.0 in
    omega arith

-- ---- the board before, and the plan
abbrev plan : (g : _) → After-add_plan-arg-1 g → Plan
plan g k = k.index-plan.result.now

behind : (g : _) (k : After-add_plan-arg-1 g)
    → IsBehind k.args.machine.now k.args.now k.self.inside.plans.items (g.N.Network.reading.net k.self.inside.net) k.self.inside.timelines.orders k.self.inside.held.items k.self.inside.firsts.items k.self.inside.last.0 k.self.inside.causes
behind g k = rw (← k.self.view_is) at k.requires.behind

at-is : (g : _) (k : After-add_plan-arg-1 g) → k.len-at.result ≡ length k.self.inside.firsts.items
at-is g k = k.len-at.ensures ∙ k.self.inside.firsts.ok.0

at-newest : (g : _) (k : After-add_plan-arg-1 g) → slice_get k.self.inside.plans.items (length k.self.inside.firsts.items) ≡ Some (plan g k)
at-newest g k =
    let same = at-is g k in
    let within : length k.self.inside.firsts.items < length k.self.inside.plans.items = one-behind _ _ _ _ _ _ _ _ _ (behind g k) in
    subst (λ n. slice_get k.self.inside.plans.items n ≡ Some (plan g k)) same (slice_get_read k.self.inside.plans.items (length k.self.inside.plans.items) k.len-at.result (plan g k) refl (omega arith) k.index-plan.ensures)

few : (g : _) (k : After-add_plan-arg-1 g) → HasFewPoints k.args.machine.now k.args.now k.self.inside.plans.items (g.N.Network.reading.net k.self.inside.net) k.self.inside.firsts.items k.self.inside.last (plan g k)
few g k = few-more _ _ _ _ _ _ _ k.self.inside.last _ (behind g k) (plan g k) (at-newest g k)

pub add_plan-requires-clause-bounds : goal.add_plan-requires-clause-bounds
add_plan-requires-clause-bounds g c = (few g c).bounds

pub add_plan-requires-clause-capacity : goal.add_plan-requires-clause-capacity
add_plan-requires-clause-capacity g c = omega (arith, c.self.invariant.capacity.points, (few g c).points, (few g c).points_before)

pub push_reserved-requires : goal.push_reserved-requires
push_reserved-requires g c =
    let before = (few g (goal.at.push_reserved-requires g c).After-add_plan-arg-1).plans_before in
    omega (arith, c.self.inside.firsts.ok.0, c.self.invariant.capacity.first_space)

pub gather_acts-requires-clause-fits : goal.gather_acts-requires-clause-fits
gather_acts-requires-clause-fits g c = omega (arith, ap length c.as_slice.ensures.items, (few g (goal.at.gather_acts-requires-clause-fits g c).After-add_plan-arg-1).points)

pub add_own_edges-requires-clause-is : goal.add_own_edges-requires-clause-is
add_own_edges-requires-clause-is g c =
    let k = (goal.at.add_own_edges-requires-clause-is g c).After-add_plan-arg-1 in
    (λ i. slice_get (c.deref.ensures.value i) (at-is g k i)) ∙ at-newest g k

pub add_own_edges-requires-clause-fits : goal.add_own_edges-requires-clause-fits
add_own_edges-requires-clause-fits g c i f q x y =
    (few g (goal.at.add_own_edges-requires-clause-fits g c).After-add_plan-arg-1).ends i f q
    (subst (λ fs. slice_get fs i ≡ Some f) (c.deref-2.ensures.value ∙ c.push_reserved.ensures.items) x) (subst (λ ps. slice_get ps i ≡ Some q) c.deref.ensures.value y)

-- ---- the parts that the holds are put into
module _ (g : _) (c : After-put_holds-arg-3-1 g) where
  abbrev k : After-add_plan-arg-1 g
  k = (goal.at.put_holds-requires-clause-rules g c).After-add_plan-arg-1

  held-3 : c.deref-3.result.now ≡ c.self.inside.held.items ++ held_from c.args.machine.now c.self.inside.last.0 (plan g k).acts
  held-3 = c.deref-3.ensures.value ∙ c.gather_acts.ensures.held ∙ ap (λ acts. c.self.inside.held.items ++ held_from c.args.machine.now c.self.inside.last.0 acts) c.as_slice.ensures.items

  from-is : c.len-held.result ≡ length c.self.inside.held.items
  from-is = c.len-held.ensures ∙ c.self.inside.held.ok.0

  can : (plans : List Plan) (firsts : List PointId) → plans ≡ c.self.inside.plans.items → firsts ≡ c.push_reserved.new.self.items
      → CanPut c.args.machine.now plans c.deref-3.result.now firsts c.self.inside.timelines.orders c.len-held.result (slot_order c.args.machine.now (behind g k).plans)
  can plans firsts a b = can-put _ _ _ _ _ _ _ c.self.inside.last _ (behind g k) (plan g k) (at-newest g k) plans c.deref-3.result.now firsts c.len-held.result a held-3 (b ∙ c.push_reserved.ensures.items) from-is

  here : CanPut c.args.machine.now c.deref-4.result.now c.deref-3.result.now c.deref-5.result.now c.self.inside.timelines.orders c.len-held.result (slot_order c.args.machine.now (behind g k).plans)
  here = can c.deref-4.result.now c.deref-5.result.now c.deref-4.ensures.value c.deref-5.ensures.value

  resources-here : length c.self.inside.timelines.orders ≡ length c.args.machine.now.resources
  resources-here = let made = rw (← c.self.view_is) at c.requires.made in c.self.invariant.capacity.resources ∙ made.1

  own : AreOwn c.args.machine.now c.self.inside.plans.items (c.self.inside.firsts.items ++ c.self.inside.last ∷ []) (length c.self.inside.firsts.items) c.self.inside.last (plan g k) c.add_own_edges.new.edges.items
  own = own-are c.args.machine.now c.self.inside.plans.items c.deref.result.now c.self.inside.firsts.items c.deref-2.result.now c.len-at.result c.self.inside.last (plan g k) c.clear.new.self.items c.add_own_edges.new.edges.items
      (few g k).acts c.deref.ensures.value (c.deref-2.ensures.value ∙ c.push_reserved.ensures.items) (at-is g k) c.clear.ensures.items c.add_own_edges.ensures.added

  new-few : length c.deref-3.result.now ≤ c.len-held.result + 256
  new-few = omega (arith, (few g k).acts, ap length c.as_slice.ensures.items, c.gather_acts.ensures.few, c.gather_acts.new.held.ok.0, ap length c.deref-3.ensures.value, c.len-held.ensures)

pub put_holds-requires-clause-rules : goal.put_holds-requires-clause-rules
put_holds-requires-clause-rules g c = (here g c).rules

pub put_holds-requires-clause-small : goal.put_holds-requires-clause-small
put_holds-requires-clause-small g c = (here g c).small

pub put_holds-requires-clause-orders : goal.put_holds-requires-clause-orders
put_holds-requires-clause-orders g c = let plans = (behind g (k g c)).plans in (λ r. slot_order c.args.machine.now plans r, λ r. order-on c.args.machine.now plans r, (here g c).slots)

pub put_holds-requires-clause-ids : goal.put_holds-requires-clause-ids
put_holds-requires-clause-ids g c r below = let e = resources-here g c in (here g c).ids r (omega arith)

pub put_holds-requires-clause-formed : goal.put_holds-requires-clause-formed
put_holds-requires-clause-formed g c = (here g c).formed

pub put_holds-requires-clause-firsts : goal.put_holds-requires-clause-firsts
put_holds-requires-clause-firsts g c = (here g c).firsts_are

pub put_holds-requires-clause-within : goal.put_holds-requires-clause-within
put_holds-requires-clause-within g c = (here g c).within

pub put_holds-requires-clause-ticks : goal.put_holds-requires-clause-ticks
put_holds-requires-clause-ticks g c = (here g c).ticks

pub put_holds-requires-clause-edges : goal.put_holds-requires-clause-edges
put_holds-requires-clause-edges g c =
    omega (arith, (own g c).few, new-few g c, c.add_own_edges.new.edges.ok.0, c.add_own_edges.ensures.space, c.clear.ensures.capacity, c.self.invariant.capacity.edge_space)

-- ---- the holds are put in
module _ (g : _) (c : After-deref-8 g) where
  abbrev e : After-put_holds-arg-3-1 g
  e = (goal.at.load_if_kept-requires-clause-known g c).After-put_holds-arg-3-1

  abbrev j : After-add_plan-arg-1 g
  j = (goal.at.load_if_kept-requires-clause-known g c).After-add_plan-arg-1

  abbrev net : Net
  net = g.N.Network.reading.net c.add_plan.new.net

  load : LoadPlans c.args.machine.now c.args.now c.self.inside.plans.items net c.put_holds.new.timelines.orders c.gather_acts.new.held.items c.push_reserved.new.self.items c.put_holds.new.causes c.put_holds.new.edges.items
  load = load-all _ _ _ _ _ _ _ c.self.inside.last _ (behind g j) (plan g j) (at-newest g j)
      net c.add_own_edges.new.edges.items c.put_holds.new.edges.items c.deref-4.result.now c.deref-3.result.now c.gather_acts.new.held.items c.push_reserved.new.self.items c.len-held.result c.put_holds.new.timelines.orders c.put_holds.new.causes
      c.add_plan.ensures.added (own g e) (c.put_holds.ensures.put (λ r. slot_order c.args.machine.now (behind g j).plans r) (λ r. order-on c.args.machine.now (behind g j).plans r) (here g e).slots)
      c.deref-4.ensures.value c.deref-3.ensures.value (sym c.deref-3.ensures.value ∙ held-3 g e) c.push_reserved.ensures.items (from-is g e) c.put_holds.ensures.causes

  again : CanPut c.args.machine.now c.deref-6.result.now c.deref-3.result.now c.deref-7.result.now c.self.inside.timelines.orders c.len-held.result (slot_order c.args.machine.now (behind g j).plans)
  again = can g e c.deref-6.result.now c.deref-7.result.now c.deref-6.ensures.value c.deref-7.ensures.value

  kept : KeepEdges c.deref-6.result.now c.deref-8.result.now → KeepEdges c.self.inside.plans.items c.put_holds.new.edges.items
  kept keeps = coe 0 1 (i. KeepEdges (c.deref-6.ensures.value i) (c.deref-8.ensures.value i)) keeps

  -- how many holds and edges there are
  few-held : (length c.self.inside.held.items ≤ length c.gather_acts.new.held.items) × (length c.gather_acts.new.held.items ≤ 65536)
  few-held =
      let most = rw (← c.self.view_is) at (c.has_capacity.ensures.holds c.if-not-has_capacity.false) in
      let more = new-few g e in
      let n = ap length c.deref-3.ensures.value in
      let f = from-is g e in
      let l = ap length (held-3 g e) ∙ length-append c.self.inside.held.items (held_from c.args.machine.now c.self.inside.last.0 (plan g j).acts) in
      (omega arith, omega arith)

  few-edges : length net.edges + length c.put_holds.new.edges.items ≤ loaded_edges
  few-edges =
      let most = rw (← c.self.view_is) at (c.has_capacity.ensures.edges c.if-not-has_capacity.false) in
      omega (arith, (own g e).few, new-few g e, c.put_holds.ensures.few, c.add_own_edges.new.edges.ok.0, c.put_holds.new.edges.ok.0, ap (λ (n : Net). length n.edges) c.add_plan.ensures.added)

pub load_if_kept-requires-clause-formed : goal.load_if_kept-requires-clause-formed
load_if_kept-requires-clause-formed g c = (again g c).formed

pub load_if_kept-requires-clause-firsts : goal.load_if_kept-requires-clause-firsts
load_if_kept-requires-clause-firsts g c = (again g c).firsts_are

pub load_if_kept-requires-clause-known : goal.load_if_kept-requires-clause-known
load_if_kept-requires-clause-known g c = coe 1 0 (i. All (IsKnown (length (ticks_in (c.deref-6.ensures.value i)))) (c.deref-8.ensures.value i)) (load g c).known

pub load_if_kept-requires-clause-in_net : goal.load_if_kept-requires-clause-in_net
load_if_kept-requires-clause-in_net g c = coe 1 0 (i. All (IsKnown (length (net g c).lows)) (c.deref-8.ensures.value i)) (load g c).in_net

pub load_if_kept-requires-clause-spare : goal.load_if_kept-requires-clause-spare
load_if_kept-requires-clause-spare g c = omega (arith, few-edges g c, ap length c.deref-8.ensures.value, c.add_plan.ensures.same_size.edges, c.self.invariant.capacity.edges)

pub load_if_kept-requires-clause-solution : goal.load_if_kept-requires-clause-solution
load_if_kept-requires-clause-solution g c keeps = coe 1 0 (i. (x : ℕ → ℕ) × IsSolution (with_edges (net g c) (c.deref-8.ensures.value i)) x) ((load g c).solved (kept g c keeps))

pub overflow_add-self : goal.overflow_add-self
overflow_add-self g c = omega (arith, c.len.ensures.len, (few g (goal.at.overflow_add-self g c).After-add_plan-arg-1).points)

pub overflow_add-self-2 : goal.overflow_add-self-2
overflow_add-self-2 g c = omega (arith, c.len.ensures.len, (few g (goal.at.overflow_add-self-2 g c).After-add_plan-arg-1).points)

pub invariant_of-self : goal.invariant_of-self
invariant_of-self g c =
    let held = few-held g (goal.at.invariant_of-self g c).After-deref-8 in
    let steps = c.self.invariant.capacity.steps_few in
    let wide = c.gather_acts.ensures.space in
    let made = c.put_holds.ensures in
    let own = c.add_own_edges.ensures.space in
    let cleared = c.clear.ensures.capacity in
    let firsts = c.push_reserved.ensures.capacity in
    let old = c.add_plan.ensures.same_size in
    let same = c.load_if_kept.ensures.same_size in
    board-firsts _ _ _ _ _ _ _ _ _ c.self.inside.firsts c.push_reserved.new.self _ _ _ _
    (board-step _ _ _ _ _ _ _ _ _ _ _ _ _ _ c.self.invariant _ _ _ _ c.put_holds.new.timelines c.gather_acts.new.held c.self.inside.steps c.put_holds.new.edges
    (ap length (c.load_if_kept.ensures.past ∙ c.add_plan.ensures.past)) (same.marks ∙ old.marks) (same.points ∙ old.points) (same.edges ∙ old.edges)
    (ap length made.past) made.marks made.resources (omega arith)
    held.0 (omega arith) (omega arith) (omega arith) steps (omega arith) (omega arith)) (omega arith)

pub returns-clause-loaded : goal.returns-clause-loaded
returns-clause-loaded g c so =
    let i = (goal.at.returns-clause-loaded g c).After-deref-8 in
    let few = few-edges g i in
    let held = few-held g i in
    let count = ap (λ (n : Net). length n.edges) (c.load_if_kept.ensures.added so) ∙ length-append (net g i).edges c.deref-8.result.now in
    let edges = ap length c.deref-8.ensures.value in
    let same = ap length c.deref-3.ensures.value in
    let from = from-is g (e g i) in
    let all-held = (behind g (j g i)).loaded.all_held in
    let totals = c.put_holds.ensures.total in
    (load g i).loaded (kept g i (c.load_if_kept.ensures.kept so)) (g.N.Network.reading.net c.load_if_kept.new.net)
    (c.load_if_kept.ensures.added so ∙ ap (with_edges (net g i)) c.deref-8.ensures.value) (c.load_if_kept.ensures.solved so) (omega arith) (omega arith) (omega arith)

pub returns-clause-last : goal.returns-clause-last
returns-clause-last g c _ = omega (arith, c.len.ensures.len, (few g (goal.at.returns-clause-last g c).After-add_plan-arg-1).all_points)

pub returns-clause-past : goal.returns-clause-past
returns-clause-past g c none =
    (λ i. side_by_side c.gather_acts.new.held.items c.self.inside.steps.items ((c.load_if_kept.ensures.past ∙ c.add_plan.ensures.past) i) (c.put_holds.ensures.past i) c.self.inside.marks.items)
    ∙ no-past c.self.inside.held.items c.gather_acts.new.held.items c.self.inside.steps.items c.self.inside.steps.items (g.N.Network.reading.past c.self.inside.net) c.self.inside.timelines.past c.self.inside.marks.items (ap (past_of g.N.Network.reading) c.self.view_is ∙ none)
