use Rattle.std.proofs.Common.{◌∙◌, ap}
use Rattle.tp_bound_check.specs.Founds.{track_of}
use Rattle.tp_bound_check.proofs.LaterFacts.{order-all}
use Rattle.tp_bound_check.proofs.orders.CheckScene.whole_track.Goals as goal

pub returns-clause-order : goal.returns-clause-order
returns-clause-order c =
    let s = c.args.self.now in
    c.track_from.ensures.order ∙ ap (track_of c.args.ends.now.before c.args.ends.now.after) (order-all s.rows.machine.now s.plans.now c.args.branch.now c.args.resource c.count.result c.count.ensures.count)
