-- The write stands at the place of the copy's course, and leaves the copy.
use Rattle.std.proofs.Common.{◌∙◌, ap, set}
use Rattle.std.proofs.lemmas.Result.{on_ok_weaker}
use Rattle.tp_chart.specs.Courses.{fresh, joined}
use Rattle.tp_chart.proofs.Ways.{planned-at, keys-kept}
use Rattle.tp_chart.proofs.courses.join_at.Goals as goal

pub returns-clause-list : goal.returns-clause-list
returns-clause-list c =
    on_ok_weaker c.join.result
    (λ e. ap (λ w. set c.args.list.now.items c.args.at w) e ∙ planned-at c.args.sheet.now (joined c.args.location c.args.points.now c.args.acts.now) (fresh c.args.sheet.now c.args.location c.args.points.now c.args.acts.now) c.args.list.now.items c.args.at c.index_mut.result.now c.requires c.index_mut.ensures.value)
    c.join.ensures.joined

pub returns-clause-keys : goal.returns-clause-keys
returns-clause-keys c = keys-kept c.args.list.now.items c.args.at c.join.new.self c.index_mut.result.now c.join.ensures.sheet c.index_mut.ensures.value
