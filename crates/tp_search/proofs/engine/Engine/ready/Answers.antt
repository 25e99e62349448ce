-- A board that was loaded afresh holds the live plans alone, and so does one that follows the schedule where it is to be exact.
use Rattle.std.proofs.Common.{ap, ◌∙◌}
use Rattle.tp_search.proofs.HeldFacts.{live-held}
use Rattle.tp_search.proofs.engine.Engine.ready.Goals as goal

pub returns-else-kept-clause-held : goal.returns-else-kept-clause-held
returns-else-kept-clause-held g c = live-held c.args.machine.now c.args.schedule.now.plans c.args.ask.now c.load.new.self.plans c.requires.can_ask c.load.ensures.plans

pub returns-else-kept-clause-exact : goal.returns-else-kept-clause-exact
returns-else-kept-clause-exact g c is = record { can_ask = c.requires.can_ask; live_part = c.load.ensures.plans }

pub returns-then-kept-clause-exact : goal.returns-then-kept-clause-exact
returns-then-kept-clause-exact g c is = record { can_ask = c.requires.can_ask; live_part = c.renew.ensures.exact (ap (λ e. e.bounds) c.self.view_is ∙ is) }
