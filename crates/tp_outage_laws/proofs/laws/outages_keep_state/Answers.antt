use Rattle.tp_outage_laws.proofs.OutagesKeep.{order-goes, through-goes}
use Rattle.tp_event_rules.specs.Planners.{right_steps}
use Rattle.tp_outage_laws.proofs.laws.outages_keep_state.Goals as goal

pub returns-clause-through : goal.returns-clause-through
returns-clause-through g c machine = through-goes (right_steps g.P.Planner.rules machine) machine (λ p. g.P.Planner.rules.spent p) (λ p plans deed plans' p' does. does.0)

pub returns-clause-order : goal.returns-clause-order
returns-clause-order g c machine totals = order-goes (right_steps g.P.Planner.rules machine) machine (λ p. g.P.Planner.rules.spent p) (λ p plans deed plans' p' does. does.0) totals
