use Rattle.tp_run_laws.proofs.Scripts.{stops_lawful}
use Rattle.tp_run_laws.proofs.laws.stopped_scripts_are_lawful.Goals as goal

pub returns : goal.returns
returns c = stops_lawful
