use Rattle.tp_run_laws.proofs.OnWhole.{turns-on_whole}
use Rattle.tp_run_laws.proofs.laws.live_turns_are_whole.Goals as goal

pub returns : goal.returns
returns g c = turns-on_whole g.P.Planner.rules
