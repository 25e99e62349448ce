use Rattle.std.proofs.Common.{◌∙◌, ap, refl, arith}
use Rattle.tp_bound_check.specs.Founds.{track_of}
use Rattle.tp_bound_check.specs.Stands.{order_until}
use Rattle.tp_bound_check.proofs.StandFacts.{order-step}
use Rattle.tp_bound_check.proofs.orders.CheckScene.track_from.Goals as goal

pub choices-preserved : goal.choices-preserved
choices-preserved c =
    let s = c.args.self.now in
    let before = order_until s.rows.machine.now s.plans.now c.args.branch.now c.args.resource c.choices.at in
    let step = order-step s.rows.machine.now s.plans.now c.args.branch.now c.args.resource c.choices.at c.in-Some.act c.holds_of-rules.result.now c.places.result.now c.own.result c.own-in-choices.result before _
    c.in-Some.ensures c.holds_of-rules.ensures.holds c.places.ensures c.own.ensures c.own-in-choices.ensures refl refl in
    let l = c.put_places-track.ensures.len in let r = c.holds_of-rules.ensures.few in let f = c.choices.invariant.few in
    record {
      order = c.put_places-track.ensures.order before c.choices.invariant.order ∙ ap (track_of c.args.ends.now.before c.args.ends.now.after) step;
      track = c.put_places-track.ensures.track;
      few = omega (arith, l, r, f);
    }
