-- The write stands at the place of the copy's course, and leaves the copy.
use Rattle.std.proofs.Common.{◌∙◌, ap, set}
use Rattle.std.proofs.lemmas.Result.{on_ok_weaker}
use Rattle.tp_chart.specs.Courses.{tell_course}
use Rattle.tp_chart.proofs.Ways.{changed-at, keys-kept}
use Rattle.tp_chart.proofs.courses.change_at.Goals as goal

pub returns-clause-list : goal.returns-clause-list
returns-clause-list c =
    on_ok_weaker c.tell.result
    (λ e. ap (λ w. set c.args.list.now.items c.args.at w) e ∙ changed-at c.args.sheet.now (tell_course c.args.moment c.args.rec.now) c.args.list.now.items c.args.at c.index_mut.result.now c.requires c.index_mut.ensures.value)
    c.tell.ensures.told

pub returns-clause-keys : goal.returns-clause-keys
returns-clause-keys c = keys-kept c.args.list.now.items c.args.at c.tell.new.self c.index_mut.result.now c.tell.ensures.sheet c.index_mut.ensures.value
