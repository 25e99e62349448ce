use Rattle.tp_event_rules.proofs.EmptyState.{kept-empty, least-empty}
use Rattle.tp_event_rules.proofs.KeptTurns.{kept-turn}
use Rattle.tp_event_rules.proofs.LeastTurns.{least-turn}
use Rattle.tp_event_rules.specs.Planners.{right_steps}
use Rattle.tp_event_rules.proofs.laws.turns_keep_state.Goals as goal

pub returns-clause-empty : goal.returns-clause-empty
returns-clause-empty g c machine = (kept-empty machine, least-empty machine)

pub returns-clause-state : goal.returns-clause-state
returns-clause-state g c machine = kept-turn (right_steps g.P.Planner.rules machine) machine (λ p. g.P.Planner.rules.spent p) (λ p plans deed plans' p' does. does.0)

pub returns-clause-least : goal.returns-clause-least
returns-clause-least g c machine = least-turn (right_steps g.P.Planner.rules machine) machine (λ p. g.P.Planner.rules.spent p) (λ p plans deed plans' p' does. does.0)
