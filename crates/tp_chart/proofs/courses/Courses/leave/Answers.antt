-- No course of the copy: none leaves.
use Rattle.std.proofs.Common.{◌∙◌, sym}
use Rattle.tp_chart.proofs.Ways.{without-none}
use Rattle.tp_chart.proofs.courses.Courses.leave.Goals as goal

pub returns-in_default : goal.returns-in_default
returns-in_default c = without-none c.args.sheet.now c.args.self.now (sym c.in_default.is ∙ c.find.ensures)
