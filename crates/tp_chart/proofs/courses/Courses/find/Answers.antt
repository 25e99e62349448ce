-- The key of a copy stands at the place of its course.
use Rattle.std.proofs.Common.{ap, ◌∙◌, position}
use Rattle.tp_chart.specs.Courses.{is_same_copy}
use Rattle.tp_chart.proofs.Ways.{key-place}
use Rattle.tp_chart.proofs.courses.Courses.find.Goals as goal

pub returns : goal.returns
returns c =
    key-place c.of.result c.args.sheet.now c.self.inside.keys.keys c.self.inside.list.items c.get_index_of.result c.of.ensures c.self.invariant c.get_index_of.ensures.index
    ∙ ap (position (λ w. is_same_copy w.sheet c.args.sheet.now)) c.self.view_is
