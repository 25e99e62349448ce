use Rattle.tp_run_laws.proofs.TurnLines.{lines-live, lines-turn}
use Rattle.tp_event_rules.specs.Planners.{right_steps}
use Rattle.tp_run_laws.proofs.laws.turns_have_lines.Goals as goal

pub returns-clause-whole : goal.returns-clause-whole
returns-clause-whole g c machine =
    lines-turn (right_steps g.P.Planner.rules machine) machine (λ p. g.P.Planner.rules.spent p) (λ p plans deed plans' p' does. does.0)

pub returns-clause-live : goal.returns-clause-live
returns-clause-live g c machine =
    lines-live (right_steps g.P.Planner.rules machine) machine (λ p. g.P.Planner.rules.spent p) (λ p plans deed plans' p' does. does.0)
