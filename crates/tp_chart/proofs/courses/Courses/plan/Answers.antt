-- No course of the copy: a new one stands last.
use Rattle.std.proofs.Common.{◌≡◌, ◌∙◌, ◌++◌, ◌∷◌, [], ap, sym, position, None}
use Rattle.std.proofs.lemmas.Result.{on_ok_weaker}
use Rattle.tp_chart.specs.Courses.{fresh, is_same_copy, joined}
use Rattle.tp_chart.proofs.Ways.{planned-none}
use Rattle.tp_chart.proofs.courses.Courses.plan.Goals as goal

pub returns-in-None : goal.returns-in-None
returns-in-None c =
    let none : None ≡ position (λ w. is_same_copy w.sheet c.args.sheet.now) c.args.self.now = sym c.in-None.is ∙ c.find.ensures in
    let new = fresh c.args.sheet.now c.args.location c.args.points.now c.args.acts.now in
    on_ok_weaker c.begin.result
    (λ e. e ∙ ap (λ ws. ws ++ new ∷ []) c.self.view_is ∙ planned-none c.args.sheet.now (joined c.args.location c.args.points.now c.args.acts.now) new c.args.self.now none)
    c.begin.ensures.list
