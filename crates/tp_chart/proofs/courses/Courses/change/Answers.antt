-- No course of the copy: none changes.
use Rattle.std.proofs.Common.{◌≡◌, ◌∙◌, sym, position, None}
use Rattle.tp_chart.specs.Courses.{is_same_copy, tell_course}
use Rattle.tp_chart.proofs.Ways.{changed-none}
use Rattle.tp_chart.proofs.courses.Courses.change.Goals as goal

pub returns-in-None : goal.returns-in-None
returns-in-None c =
    let none : None ≡ position (λ w. is_same_copy w.sheet c.args.sheet.now) c.args.self.now = sym c.in-None.is ∙ c.find.ensures in
    changed-none c.args.sheet.now (tell_course c.args.moment c.args.rec.now) c.args.self.now none
