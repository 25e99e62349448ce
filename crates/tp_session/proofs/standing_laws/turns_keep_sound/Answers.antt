use Rattle.tp_event_rules.specs.Planners.{right_steps}
use Rattle.tp_session.proofs.TurnKeeps.{turns-keep}
use Rattle.tp_session.proofs.standing_laws.turns_keep_sound.Goals as goal

pub returns : goal.returns
returns g c machine = turns-keep (right_steps g.P.Planner.rules machine) machine (λ p. g.P.Planner.rules.spent p) (λ p plans deed plans' p' does. does.0)
