use Rattle.tp_event_rules.specs.Planners.{right_steps}
use Rattle.tp_event_turn.proofs.LiveAlone.{live-clock_holds, live-outages_hold, live-turns_hold}
use Rattle.tp_event_turn.proofs.live_part.live_turns_hold.Goals as goal

pub returns-clause-turns : goal.returns-clause-turns
returns-clause-turns g c machine = live-turns_hold (right_steps g.P.Planner.rules machine) machine

pub returns-clause-clock : goal.returns-clause-clock
returns-clause-clock g c machine = live-clock_holds (right_steps g.P.Planner.rules machine) machine

pub returns-clause-outages : goal.returns-clause-outages
returns-clause-outages g c machine = live-outages_hold (right_steps g.P.Planner.rules machine) machine (λ p p' plans live now legal floors does. does.0)
