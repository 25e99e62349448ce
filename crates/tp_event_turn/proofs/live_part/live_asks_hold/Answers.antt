use Rattle.tp_event_rules.specs.Planners.{right_steps}
use Rattle.tp_event_turn.proofs.LiveAlone.{live-asks_hold}
use Rattle.tp_event_turn.proofs.live_part.live_asks_hold.Goals as goal

pub returns : goal.returns
returns g c machine = live-asks_hold (right_steps g.P.Planner.rules machine) machine
