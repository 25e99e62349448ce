use Rattle.tp_outage_laws.proofs.OutagesLive.{live-goes}
use Rattle.tp_event_rules.specs.Planners.{right_steps}
use Rattle.tp_outage_laws.proofs.laws.outages_keep_live.Goals as goal

pub returns : goal.returns
returns g c machine = live-goes (right_steps g.P.Planner.rules machine) machine (λ p. g.P.Planner.rules.spent p) (λ p plans deed plans' p' does. does.0)
