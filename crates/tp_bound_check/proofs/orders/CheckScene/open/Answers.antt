use Rattle.std.proofs.Common.{◌∙◌, ap, sym, refl, cond, Bool, Some, None, ltb, ◌+◌, ◌++◌, length}
use Rattle.tp_schedule.specs.Answers.{kept_of}
use Rattle.tp_bound_laws.specs.Places.{is_begun, stop_due, actions_due}
use Rattle.tp_bound_laws.specs.Trees.{split_look}
use Rattle.tp_bound_laws.specs.Trees.Look.{due}
use Rattle.tp_bound_check.proofs.LookFacts.{open-dues}
use Rattle.tp_bound_check.proofs.orders.CheckScene.open.Goals as goal

pub returns-clause-ok : goal.returns-clause-ok
returns-clause-ok c = λ goals.
    let s = c.args.self.now in let b = c.args.branch in
    let m = s.rows.machine.now in let ps = s.plans.now in let a = s.rows.ask.now in let rs = s.rows.rows.now in
    let dues = open-dues m ps a rs s.limit b goals c.can_stop-with_stop.result c.first_act-at.result (ltb (kept_of a + length b.x.choices) 64) c.can_stop-with_stop.ensures refl c.first_act-at.ensures.none in
    let f : Bool → _ = λ t. split_look (cond t None (Some (stop_due m ps a rs b ++ actions_due m ps a rs b))) in
    ap f (ap (is_begun m a a.origin) (sym c.first-first.ensures) ∙ sym c.is_begun.ensures ∙ c.if-is_begun.false) ∙ ap due dues
