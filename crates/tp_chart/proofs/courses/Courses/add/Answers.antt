-- A copy that has a course keeps it, and another one has its course last.
use Rattle.std.proofs.Common.{◌≡◌, ◌∙◌, ◌++◌, ◌∷◌, [], List, None, ap, position, subst, sym}
use Rattle.std.proofs.lemmas.Result.{on_ok_weaker}
use Rattle.tp_schedule.specs.declared.records.SheetName.{SheetName}
use Rattle.tp_chart.specs.Courses.{Way, is_same_copy}
use Rattle.tp_chart.specs.Scenes.{planned}
use Rattle.tp_chart.proofs.Ways.{planned-none, planned-there}
use Rattle.tp_chart.proofs.courses.Courses.add.Goals as goal

pub returns-in-Some : goal.returns-in-Some
returns-in-Some c =
    let there = planned-there c.sheet.result.now c.args.course c.args.self.now (sym c.in-Some.is ∙ c.find.ensures) in
    subst (λ (s : SheetName). c.args.self.now ≡ planned s (λ q. q) c.args.course c.args.self.now) c.sheet.ensures there

pub returns-in-None : goal.returns-in-None
returns-in-None c =
    let none : None ≡ position (λ w. is_same_copy w.sheet c.sheet.result.now) c.args.self.now = sym c.in-None.is ∙ c.find.ensures in
    let last = planned-none c.sheet.result.now (λ q. q) c.args.course c.args.self.now none in
    on_ok_weaker c.add_new.result
    (λ e. e ∙ ap (λ (ws : List Way). ws ++ c.args.course ∷ []) c.self.view_is ∙ subst (λ (s : SheetName). c.args.self.now ++ c.args.course ∷ [] ≡ planned s (λ q. q) c.args.course c.args.self.now) c.sheet.ensures last)
    c.add_new.ensures.list
