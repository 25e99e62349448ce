use Rattle.std.proofs.Common.{◌≡◌, ◌∙◌, ◌+◌, ◌-◌, ap, sym, refl, arith}
use Rattle.tp_schedule.specs.Choices.{put_places}
use Rattle.tp_schedule.specs.Spots.Spot.{own}
use Rattle.tp_bound_check.specs.Ranks.{rank_at}
use Rattle.tp_bound_check.specs.Stands.{order_until}
use Rattle.tp_bound_check.proofs.StandFacts.{order-step}
use Rattle.tp_bound_check.proofs.orders.CheckScene.rank.Goals as goal

pub choices-preserved : goal.choices-preserved
choices-preserved c =
    let s = c.args.self.now in let m = s.rows.machine.now in let ps = s.plans.now in let b = c.args.branch.now in let r = c.args.resource in
    let n = c.choices.at - 1 in let t = c.choices-test.true in let w = c.choices.invariant.within in
    let is : c.choices.at ≡ n + 1 = omega (arith, t) in
    let before = order_until m ps b r n in
    let rules = c.holds_of-rules.result.now in let places = c.places.result.now in
    let step = order-step m ps b r n c.in-Some.act rules places (own (n + 1)) (own n) before (put_places r (own (n + 1)) (own n) rules places before)
    c.in-Some.ensures c.holds_of-rules.ensures.holds c.places.ensures refl refl refl refl in
    record {
      within = omega (arith, w);
      same = c.choices.invariant.same ∙ ap (λ k. rank_at c.choices.left (order_until m ps b r k)) is ∙ ap (rank_at c.choices.left) (sym step) ∙ c.place_below-left.ensures (own (n + 1)) (own n) before refl;
    }

pub returns : goal.returns
returns c =
    let s = c.args.self.now in let m = s.rows.machine.now in let ps = s.plans.now in let b = c.args.branch.now in let r = c.args.resource in
    let t = c.choices-test.false in let z : c.choices.at ≡ 0 = omega (arith, t) in
    c.kept_rank.ensures ∙ sym (c.choices.invariant.same ∙ ap (λ k. rank_at c.choices.left (order_until m ps b r k)) z)
