use Rattle.std.proofs.Common.{◌≡◌, ℕ, ◌∙◌, ◌+◌, ◌++◌, List, [], length, sym, ap, arith, drop}
use Rattle.std.proofs.lemmas.List.{append-nil, drop_all}
use Rattle.tp_base.specs.Net.{Net}
use Rattle.tp_base.specs.declared.edges.PointId.{PointId}
use Rattle.tp_schedule.specs.declared.parts.Plan.{Plan}
use Rattle.tp_placing.specs.LoadedNet.{with_plans, firsts_from, point_count}
use Rattle.tp_placing.proofs.LoadEdges.{drop-read}
use Rattle.tp_placing.proofs.LoadPoints.{plans-more, plan-count, firsts-more}
use Rattle.tp_placing.proofs.NetworkFacts.{same-size-then}
use Rattle.tp_placing.proofs.kept_points.add_points.Goals as goal

pub loop-plan-preserved : goal.loop-plan-preserved
loop-plan-preserved g c =
    let v = c.loop-plan.invariant in
    let a = c.add_plan.ensures in
    let d = drop-read c.args.plans.now c.loop-plan.plan-index c.plan-item.result c.loop-plan-test.true c.plan-item.is in
    let counted = ap point_count d in
    let left = ap length d in
    let points = plan-count c.args.floor c.args.horizon c.plan-item.result (g.N.Network.reading.net c.loop-plan.net) (g.N.Network.reading.net c.add_plan.new.net) a.added in
    let count = v.count in
    let room = v.room in
    let space = v.space in
    let same = v.same_size.points in
    let kept = a.same_size.points in
    let more = c.in-Ok.ensures.len in
    let wider = c.in-Ok.ensures.capacity in
    let before = v.capacity in
    rw c.len.ensures.len (record {
      count = omega arith;
      room = omega arith;
      space = omega arith;
      all = plans-more c.args.floor c.args.horizon c.plan-item.result (drop (c.loop-plan.plan-index + 1) c.args.plans.now) (g.N.Network.reading.net c.loop-plan.net) (g.N.Network.reading.net c.add_plan.new.net) a.added ∙ ap (λ ps. with_plans c.args.floor c.args.horizon ps (g.N.Network.reading.net c.loop-plan.net)) (sym d) ∙ v.all;
      firsts = ap (λ (xs : List PointId). xs ++ firsts_from (c.loop-plan.first + length c.plan-item.result.acts + 1) (drop (c.loop-plan.plan-index + 1) c.args.plans.now)) c.in-Ok.ensures.items ∙ firsts-more c.loop-plan.firsts.items c.loop-plan.first c.plan-item.result (drop (c.loop-plan.plan-index + 1) c.args.plans.now) ∙ ap (λ (ps : List Plan). c.loop-plan.firsts.items ++ firsts_from c.loop-plan.first ps) (sym d) ∙ v.firsts;
      capacity = omega arith;
      solved = a.solved;
      past = a.past ∙ v.past;
      same_size = same-size-then v.same_size a.same_size;
    })

pub add_plan-requires-clause-capacity : goal.add_plan-requires-clause-capacity
add_plan-requires-clause-capacity g c =
    let counted = ap point_count (drop-read c.args.plans.now c.loop-plan.plan-index c.plan-item.result c.loop-plan-test.true c.plan-item.is) in
    let room = c.loop-plan.invariant.room in
    omega arith

pub returns-clause-count : goal.returns-clause-count
returns-clause-count g c =
    let counted = ap point_count (drop_all c.loop-plan.plan-index c.args.plans.now c.loop-plan-test.false) in
    let count = c.loop-plan.invariant.count in
    omega arith

-- no plan brings no point
plans-none : (floor horizon : ℕ) (net : Net) → with_plans floor horizon [] net ≡ net
plans-none floor horizon net =
    let a = append-nil net.lows in
    let b = append-nil net.caps in
    λ i. record { lows = a i; caps = b i; edges = net.edges }

pub returns-clause-added : goal.returns-clause-added
returns-clause-added g c =
    let net = g.N.Network.reading.net c.loop-plan.net in
    sym (plans-none c.args.floor c.args.horizon net)
    ∙ sym (ap (λ (ps : List Plan). with_plans c.args.floor c.args.horizon ps net) (drop_all c.loop-plan.plan-index c.args.plans.now c.loop-plan-test.false))
    ∙ c.loop-plan.invariant.all

pub returns-clause-firsts : goal.returns-clause-firsts
returns-clause-firsts g c =
    let items = c.loop-plan.firsts.items in
    sym (append-nil items)
    ∙ sym (ap (λ (ps : List Plan). items ++ firsts_from c.loop-plan.first ps) (drop_all c.loop-plan.plan-index c.args.plans.now c.loop-plan-test.false))
    ∙ c.loop-plan.invariant.firsts
