use Rattle.tp_event_rules.specs.Planners.{right_steps}
use Rattle.tp_event_turn.proofs.StockEvents.{stock-turns}
use Rattle.tp_event_turn.proofs.laws.turns_keep_stock.Goals as goal

pub returns : goal.returns
returns g c machine = stock-turns (right_steps g.P.Planner.rules machine) machine (λ p. g.P.Planner.rules.spent p) (λ p plans deed plans' p' does. does.0)
