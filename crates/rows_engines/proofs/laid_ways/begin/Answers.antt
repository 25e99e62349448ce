-- The board was loaded afresh, and holds the same plans with the goal open.
use Rattle.std.proofs.Common.{◌∙◌}
use Rattle.tp_search.proofs.HeldFacts.{live-held}
use Rattle.rows_engines.proofs.laid_ways.begin.Goals as goal

pub returns-in-Ok-clause-held : goal.returns-in-Ok-clause-held
returns-in-Ok-clause-held g c = live-held c.args.machine.now c.args.schedule.now.plans c.args.ask.now c.open_goal.new.self.plans c.requires.can_ask (c.open_goal.ensures.loaded.plans ∙ c.load.ensures.plans)
