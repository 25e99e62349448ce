-- The key of a course goes with it.
use Rattle.std.proofs.Common.{◌∙◌}
use Rattle.tp_chart.proofs.Ways.{keys-removed, without-at}
use Rattle.tp_chart.proofs.courses.remove_at.Goals as goal

pub returns-clause-keys : goal.returns-clause-keys
returns-clause-keys c = keys-removed c.args.keys.now.keys c.shift_remove_index.new.self.keys c.args.list.now.items c.remove.new.self.items c.args.at c.requires.keys c.shift_remove_index.ensures.keys c.remove.ensures.items

pub returns-clause-list : goal.returns-clause-list
returns-clause-list c = c.remove.ensures.items ∙ without-at c.args.sheet.now c.args.list.now.items c.args.at c.requires.place
