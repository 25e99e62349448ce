use Rattle.std.proofs.Common.{sym, subst, Bool}
use Rattle.tp_bound_check.specs.Looks.{IsPassing}
use Rattle.tp_bound_check.specs.declared.dues.Frame.{Frame}
use Rattle.tp_bound_check.specs.declared.dues.Frame.TheVariants.{Acts}
use Rattle.tp_bound_check.proofs.orders.CheckScene.pass.Goals as goal

pub returns-in-Held-clause-passing : goal.returns-in-Held-clause-passing
returns-in-Held-clause-passing c =
    let s = c.args.self.now in
    let P : Frame → Type 0 = λ f. IsPassing s.rows.machine.now s.plans.now s.rows.ask.now s.rows.rows.now s.limit c.args.goals.now f c.args.node.now c.pass_place.result in
    subst P (sym c.in-Held.is) (c.pass_place.ensures.passing c.args.goals.now)

pub returns-then-with_stop-clause-passing : goal.returns-then-with_stop-clause-passing
returns-then-with_stop-clause-passing c =
    let s = c.args.self.now in
    let P : Frame → Type 0 = λ f. IsPassing s.rows.machine.now s.plans.now s.rows.ask.now s.rows.rows.now s.limit c.args.goals.now f c.args.node.now c.pass_stop.result in
    let Q : Bool → Type 0 = λ w. P (Acts c.in-Acts.branch w c.in-Acts.at) in
    subst P (sym c.in-Acts.is) (subst Q (sym c.if-with_stop.true) (c.pass_stop.ensures.passing c.args.goals.now))

pub returns-else-with_stop-clause-passing : goal.returns-else-with_stop-clause-passing
returns-else-with_stop-clause-passing c =
    let s = c.args.self.now in
    let P : Frame → Type 0 = λ f. IsPassing s.rows.machine.now s.plans.now s.rows.ask.now s.rows.rows.now s.limit c.args.goals.now f c.args.node.now c.pass_act.result in
    let Q : Bool → Type 0 = λ w. P (Acts c.in-Acts.branch w c.in-Acts.at) in
    subst P (sym c.in-Acts.is) (subst Q (sym c.if-with_stop.false) (c.pass_act.ensures.passing c.args.goals.now))
