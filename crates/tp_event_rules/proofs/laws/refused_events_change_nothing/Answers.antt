use Rattle.tp_event_rules.proofs.AcceptedTurns.{told-refused}
use Rattle.tp_event_rules.proofs.RefusedTurns.{turn-refused}
use Rattle.tp_event_rules.specs.Planners.{right_steps}
use Rattle.tp_event_rules.proofs.laws.refused_events_change_nothing.Goals as goal

pub returns-clause-told : goal.returns-clause-told
returns-clause-told g c machine = told-refused (right_steps g.P.Planner.rules machine) machine

pub returns-clause-nothing : goal.returns-clause-nothing
returns-clause-nothing g c machine = turn-refused (right_steps g.P.Planner.rules machine) machine
