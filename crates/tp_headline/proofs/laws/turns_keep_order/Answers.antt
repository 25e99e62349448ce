use Rattle.tp_headline.proofs.Headline.{order-empty}
use Rattle.tp_headline.proofs.LawfulLines.{order-turn}
use Rattle.tp_event_rules.specs.Planners.{right_steps}
use Rattle.tp_headline.proofs.laws.turns_keep_order.Goals as goal

pub returns-clause-empty : goal.returns-clause-empty
returns-clause-empty g c machine = order-empty machine

pub returns-clause-turn : goal.returns-clause-turn
returns-clause-turn g c machine = order-turn (right_steps g.P.Planner.rules machine) machine (λ p. g.P.Planner.rules.spent p) (λ p plans deed plans' p' does. does.0)
