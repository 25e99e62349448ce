use Rattle.tp_event_rules.proofs.StockKept.{stock-empty}
use Rattle.tp_event_rules.proofs.StockTurns.{stocked-turn}
use Rattle.tp_event_rules.specs.Planners.{right_steps}
use Rattle.tp_event_rules.proofs.laws.stocks_are_never_overdrawn.Goals as goal

pub returns-clause-empty : goal.returns-clause-empty
returns-clause-empty g c machine = (stock-empty machine).drawn

pub returns-clause-turn : goal.returns-clause-turn
returns-clause-turn g c machine = stocked-turn (right_steps g.P.Planner.rules machine) machine (λ p. g.P.Planner.rules.spent p) (λ p plans deed plans' p' does. does.0)
