use Rattle.std.proofs.Common.{◌≡◌, ◌∙◌, ℕ, ◌+◌, ◌≤◌, List, [], ◌++◌, length, take, filter, sym, ap, subst, arith, All}
use Rattle.std.proofs.lemmas.List.{length-take}
use Rattle.tp_base.specs.Grows.{IsKnown}
use Rattle.tp_base.specs.Net.{Net, HasLeast, IsSolution, empty_net, with_edges}
use Rattle.tp_base.specs.declared.edges.Edge.{Edge}
use Rattle.tp_base.specs.declared.edges.PointId.{PointId}
use Rattle.tp_schedule.specs.LivePlans.{is_live}
use Rattle.tp_schedule.specs.declared.parts.Plan.{Plan}
use Rattle.tp_placing.specs.Causes.{most_causes, step_causes}
use Rattle.tp_placing.specs.declared.causes.EdgeCause.{EdgeCause}
use Rattle.tp_placing.specs.Inside.{most_edges}
use Rattle.tp_placing.specs.Loaded.{IsLoaded, all_edges}
use Rattle.tp_placing.specs.LoadedHolds.{AreInOrder, ticks_in}
use Rattle.tp_placing.specs.LoadedNet.{chains_causes, firsts_from, holds_on, point_count, with_plans}
use Rattle.tp_placing.specs.LoadedBoard.{loaded_edges}
use Rattle.tp_placing.proofs.LiveFacts.{empty-least, points-few}
use Rattle.tp_placing.proofs.LoadedTicks.{few-acts, ticks-count}
use Rattle.tp_placing.proofs.LoadedNet.{causes-fit, count, edges-fit, edges-kept, edges-known, loaded}
use Rattle.tp_placing.proofs.board.Board.load_live.Goals as goal
use Rattle.tp_placing.proofs.board.Board.load_live.Goals.{After-deref-5}

pub add_points-points-requires-clause-capacity : goal.add_points-points-requires-clause-capacity
add_points-points-requires-clause-capacity g c =
    let live = ap point_count (c.deref.ensures.value ∙ c.keep_live.ensures.plans) in
    let few = points-few _ (few-acts c.args.machine.now c.args.now _ c.requires.can) in
    let plans = c.requires.can.few in
    let none = ap (λ (n : Net). length n.lows) c.clear.ensures.net in
    let same = c.clear.ensures.same_size.points in
    let room = c.self.invariant.capacity.points in
    omega arith

pub add_points-points-requires-clause-few : goal.add_points-points-requires-clause-few
add_points-points-requires-clause-few g c =
    let live = ap point_count (c.deref.ensures.value ∙ c.keep_live.ensures.plans) in
    let few = points-few _ (few-acts c.args.machine.now c.args.now _ c.requires.can) in
    let plans = c.requires.can.few in
    omega arith

pub add_points-points-requires-clause-least : goal.add_points-points-requires-clause-least
add_points-points-requires-clause-least g c = subst HasLeast (sym c.clear.ensures.net) empty-least

pub put_plans-requires-clause-ticks : goal.put_plans-requires-clause-ticks
put_plans-requires-clause-ticks g c = subst (λ ps. length (ticks_in ps) ≡ point_count ps) (sym (c.deref-2.ensures.value ∙ c.keep_live.ensures.plans)) (ticks-count c.args.machine.now c.args.now _ c.requires.can)

-- what is left of the causes are those that are always there
only-plain : (causes rest : List EdgeCause) → step_causes ≤ length rest → rest ≡ take step_causes causes → length rest ≡ step_causes
only-plain causes rest enough is = let l = ap length is ∙ length-take step_causes causes in omega arith

-- the live plans, whose points and holds are there
module _ (g : _) (k : After-deref-5 g) where
  abbrev live : List Plan
  live = filter (is_live k.args.machine.now k.args.now) k.args.schedule.now.plans

  abbrev net : Net
  net = g.N.Network.reading.net k.add_points-points.new.net

  net-is : net ≡ with_plans (k.args.now + k.args.machine.now.lead) (k.args.now + k.args.machine.now.window) live empty_net
  net-is = k.add_points-points.ensures.added ∙ (λ i. with_plans (k.args.now + k.args.machine.now.lead) (k.args.now + k.args.machine.now.window) ((k.deref.ensures.value ∙ k.keep_live.ensures.plans) i) (k.clear.ensures.net i))

  put : AreInOrder k.args.machine.now live k.put_plans.new.timelines k.put_plans.new.held.items
  put = subst (λ ps. AreInOrder k.args.machine.now ps k.put_plans.new.timelines k.put_plans.new.held.items) (k.deref-2.ensures.value ∙ k.keep_live.ensures.plans) k.put_plans.ensures.in_order

  based : length k.clear-2.new.self ≡ step_causes
  based = only-plain k.self.inside.causes k.clear-2.new.self k.clear-2.ensures.plain.slots k.clear-2.ensures.forgotten

  abbrev edges : List Edge
  edges = all_edges k.args.machine.now live k.put_plans.new.timelines.orders k.put_plans.new.held.items

  -- the same edges, as they are asked for
  edges-are : all_edges k.args.machine.now k.deref-5.result.now k.put_plans.new.timelines.orders k.deref-4.result.now ≡ edges
  edges-are = λ i. all_edges k.args.machine.now ((k.deref-5.ensures.value ∙ k.keep_live.ensures.plans) i) k.put_plans.new.timelines.orders (k.deref-4.ensures.value i)

  enough : most_edges ≤ g.N.Network.reading.max_edges k.add_points-points.new.net
  enough = let a = k.self.invariant.capacity.edges in let b = k.clear.ensures.same_size.edges in let d = k.add_points-points.ensures.same_size.edges in omega arith

  few-edges : length edges ≤ loaded_edges
  few-edges = count k.args.machine.now k.args.now live k.requires.can net net-is k.put_plans.new.timelines k.put_plans.new.held.items put k.clear-2.new.self k.clear-2.ensures.plain based

pub add_edges-requires-clause-space : goal.add_edges-requires-clause-space
add_edges-requires-clause-space g c =
    let k = (goal.at.add_edges-requires-clause-space g c).After-deref-5 in
    let few = few-edges g k in
    let same = ap length (edges-are g k) in
    let space = k.self.invariant.capacity.edge_space in
    let wide = k.clear-6.ensures.capacity in
    let none = k.clear-6.ensures.len in
    omega arith

pub add_edges-requires-clause-causes : goal.add_edges-requires-clause-causes
add_edges-requires-clause-causes g c = based g (goal.at.add_edges-requires-clause-causes g c).After-deref-5

pub add_edges-requires-clause-capacity : goal.add_edges-requires-clause-capacity
add_edges-requires-clause-capacity g c =
    let k = (goal.at.add_edges-requires-clause-capacity g c).After-deref-5 in
    subst (λ hs. step_causes + length (chains_causes (holds_on hs k.put_plans.new.timelines.orders) (length k.args.machine.now.resources)) ≤ most_causes) (sym k.deref-4.ensures.value)
    (causes-fit k.args.machine.now k.args.now (live g k) k.requires.can (net g k) (net-is g k) k.put_plans.new.timelines k.put_plans.new.held.items (put g k) k.clear-2.new.self k.clear-2.ensures.plain (based g k))

-- the list that is loaded
made : (given gathered none all : List Edge) → given ≡ gathered → gathered ≡ none ++ all → none ≡ [] → given ≡ all
made given gathered none all is added empty = is ∙ added ∙ ap (λ es. es ++ all) empty

pub load-requires-clause-known : goal.load-requires-clause-known
load-requires-clause-known g c =
    let k = (goal.at.load-requires-clause-known g c).After-deref-5 in
    let is = made _ _ _ _ c.deref-6.ensures.value c.add_edges.ensures.added c.clear-6.ensures.items ∙ edges-are g k in
    subst (All (IsKnown (length (net g k).lows))) (sym is)
    (edges-known k.args.machine.now k.args.now (live g k) k.requires.can (net g k) (net-is g k) k.put_plans.new.timelines k.put_plans.new.held.items (put g k) k.clear-2.new.self k.clear-2.ensures.plain (based g k))

pub load-requires-clause-spare : goal.load-requires-clause-spare
load-requires-clause-spare g c =
    let k = (goal.at.load-requires-clause-spare g c).After-deref-5 in
    let is = made _ _ _ _ c.deref-6.ensures.value c.add_edges.ensures.added c.clear-6.ensures.items ∙ edges-are g k in
    subst (λ es. length (net g k).edges + length es ≤ g.N.Network.reading.max_edges k.add_points-points.new.net) (sym is)
    (edges-fit k.args.machine.now k.args.now (live g k) k.requires.can (net g k) (net-is g k) k.put_plans.new.timelines k.put_plans.new.held.items (put g k) k.clear-2.new.self k.clear-2.ensures.plain (based g k) (g.N.Network.reading.max_edges k.add_points-points.new.net) (enough g k))

pub load-requires-clause-solution : goal.load-requires-clause-solution
load-requires-clause-solution g c =
    let k = (goal.at.load-requires-clause-solution g c).After-deref-5 in
    let is = made _ _ _ _ c.deref-6.ensures.value c.add_edges.ensures.added c.clear-6.ensures.items ∙ edges-are g k in
    subst (λ es. (x : ℕ → ℕ) × IsSolution (with_edges (net g k) es) x) (sym is)
    (edges-kept k.args.machine.now k.args.now (live g k) k.requires.can (net g k) (net-is g k) k.put_plans.new.timelines k.put_plans.new.held.items (put g k) k.clear-2.new.self k.clear-2.ensures.plain (based g k))

pub returns-clause-loaded : goal.returns-clause-loaded
returns-clause-loaded g c =
    let k = (goal.at.returns-clause-loaded g c).After-deref-5 in
    let is = made _ _ _ _ c.deref-6.ensures.value c.add_edges.ensures.added c.clear-6.ensures.items ∙ edges-are g k in
    let added = c.load.ensures.added ∙ ap (with_edges (net g k)) is in
    let causes = c.add_edges.ensures.causes ∙ ap (λ hs. k.clear-2.new.self ++ chains_causes (holds_on hs k.put_plans.new.timelines.orders) (length k.args.machine.now.resources)) k.deref-4.ensures.value in
    let firsts = k.add_points-points.ensures.firsts ∙ ap (λ (fs : List PointId). fs ++ firsts_from 0 k.deref.result.now) k.clear-5.ensures.items ∙ ap (firsts_from 0) (k.deref.ensures.value ∙ k.keep_live.ensures.plans) in
    subst (λ ps. IsLoaded k.args.machine.now k.args.now ps (g.N.Network.reading.net c.load.new.self) k.put_plans.new.timelines.orders k.put_plans.new.held.items k.add_points-points.new.firsts.items c.add_edges.new.causes) (sym k.keep_live.ensures.plans)
    (loaded k.args.machine.now k.args.now (live g k) k.requires.can (net g k) (net-is g k) k.put_plans.new.timelines k.put_plans.new.held.items (put g k) k.clear-2.new.self k.clear-2.ensures.plain (based g k)
    (g.N.Network.reading.net c.load.new.self) k.add_points-points.new.firsts.items c.add_edges.new.causes added c.load.ensures.solved firsts causes)
