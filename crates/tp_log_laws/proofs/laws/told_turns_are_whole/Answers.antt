use Rattle.tp_log_laws.proofs.Told.{turns-accepted}
use Rattle.tp_log_laws.proofs.laws.told_turns_are_whole.Goals as goal

pub returns : goal.returns
returns g c = turns-accepted g.P.Planner.rules
