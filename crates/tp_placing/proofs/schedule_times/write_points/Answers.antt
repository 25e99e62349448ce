use Rattle.std.proofs.Common.{◌≡◌, suc, ◌+◌, length, ap, sym, ◌∙◌, arith, Some, inl, inr}
use Rattle.tp_schedule.specs.Plans.{change_plan, plan_of, with_points}
use Rattle.tp_schedule.specs.Times.{ticks_from}
use Rattle.tp_placing.specs.Settled.{AreLeastFrom}
use Rattle.tp_placing.proofs.StandFacts.{and-some}
use Rattle.tp_placing.proofs.WritePlans.{change-same}
use Rattle.tp_placing.proofs.schedule_times.write_points.Goals as goal
use Rattle.tp_placing.proofs.schedule_times.write_points.Goals.{After-times_from-points}

-- where it is written, its points are not the least times
not-least : (g : _) (c : After-times_from-points g) → AreLeastFrom (g.N.Network.reading.net c.args.net.now) c.args.first.0 c.args.plan.now.points → ⊥
not-least g c least =
    let x = c.requires.solved in
    let items : c.as_slice.result.now ≡ c.args.plan.now.points = c.as_slice.ensures.items in
    c.have_times.ensures.other c.if-have_times.false x.0 x.1 (items ∙ least x.0 x.1 ∙ ap (λ ts. ticks_from x.0 c.args.first.0 (length ts)) (sym items))

planned-here : (g : _) (c : After-times_from-points g) → plan_of c.args.plan.now.sheet c.args.schedule.now.plans ≡ Some c.args.plan.now
planned-here g c = elim c.requires.planned [ inl planned ↦ planned | inr least ↦ absurd (not-least g c least) ]

pub set_points-requires : goal.set_points-requires
set_points-requires g k =
    let c = (goal.at.set_points-requires g k).After-times_from-points in
    let more = c.requires.formed.one_more in
    let len = c.len.ensures.len in
    let count = c.times_from-points.ensures.count in
    record { planned = and-some (plan_of c.args.plan.now.sheet c.args.schedule.now.plans) c.args.plan.now (λ p. length c.times_from-points.result ≡ length p.points) (planned-here g c) (omega arith) }

pub returns-clause-plans : goal.returns-clause-plans
returns-clause-plans g c planned sol l =
    let len = c.len.ensures.len in
    let n : c.len.result + 1 ≡ suc (length c.args.plan.now.acts) = omega arith in
    c.set_points.ensures.plans ∙ ap (λ ts. change_plan c.args.plan.now.sheet (with_points ts) c.args.schedule.now.plans) (c.times_from-points.ensures.times sol l ∙ ap (λ k. ticks_from sol c.args.first.0 k) n)

pub returns-clause-settled : goal.returns-clause-settled
returns-clause-settled g k least = absurd (not-least g (goal.at.returns-clause-settled g k).After-times_from-points least)

pub returns-then-have_times-clause-plans : goal.returns-then-have_times-clause-plans
returns-then-have_times-clause-plans g c planned sol l =
    let more = c.requires.formed.one_more in
    let items = c.as_slice.ensures.items in
    let n : length c.as_slice.result.now ≡ suc (length c.args.plan.now.acts) = ap length items ∙ (omega arith) in
    let have = c.have_times.ensures.same c.if-have_times.true sol l in
    let same : ticks_from sol c.args.first.0 (suc (length c.args.plan.now.acts)) ≡ c.args.plan.now.points = ap (λ k. ticks_from sol c.args.first.0 k) (sym n) ∙ sym have ∙ items in
    change-same c.args.plan.now.sheet (ticks_from sol c.args.first.0 (suc (length c.args.plan.now.acts))) c.args.schedule.now.plans c.args.plan.now planned same
