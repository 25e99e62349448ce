use Rattle.tp_event_rules.proofs.LawfulLogs.{plannable-empty}
use Rattle.tp_event_rules.proofs.PlannableTurns.{plannable-turn}
use Rattle.tp_event_rules.specs.Planners.{right_steps}
use Rattle.tp_event_rules.proofs.laws.turns_keep_planning.Goals as goal

pub returns-clause-empty : goal.returns-clause-empty
returns-clause-empty g c = plannable-empty

pub returns-clause-turn : goal.returns-clause-turn
returns-clause-turn g c machine = plannable-turn (right_steps g.P.Planner.rules machine) machine (λ p. g.P.Planner.rules.spent p) (λ p plans deed plans' p' does. does.0)
