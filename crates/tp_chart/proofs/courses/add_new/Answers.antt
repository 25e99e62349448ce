-- The key of a new copy goes last, as its course does.
use Rattle.std.proofs.Common.{◌≡◌, ◌∙◌, ◌∷◌, ◌++◌, [], None, ap, position, subst, sym}
use Rattle.tp_schedule.specs.declared.records.SheetName.{SheetName}
use Rattle.tp_chart.specs.Courses.{is_same_copy, key_of}
use Rattle.tp_chart.proofs.Ways.{keys-pushed}
use Rattle.tp_chart.proofs.courses.add_new.Goals as goal

pub returns-clause-keys : goal.returns-clause-keys
returns-clause-keys c =
    let pushed : c.push_reserved.new.self.items ≡ c.args.list.now.items ++ c.args.course ∷ [] =
    c.push_reserved.ensures.items ∙ (λ j. c.reserve.ensures.items j ++ c.args.course ∷ []) in
    let new : None ≡ position (λ w. is_same_copy w.sheet c.args.course.sheet) c.args.list.now.items =
    subst (λ (s : SheetName). None ≡ position (λ w. is_same_copy w.sheet s) c.args.list.now.items) (sym c.requires.same) c.requires.is_new in
    keys-pushed c.args.course c.of.result c.args.keys.now.keys c.insert.new.self.keys c.args.list.now.items c.push_reserved.new.self.items (c.of.ensures ∙ ap key_of (sym c.requires.same)) c.requires.keys new c.in_ok-insert.ensures.keys pushed
