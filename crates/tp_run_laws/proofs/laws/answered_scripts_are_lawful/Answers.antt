use Rattle.tp_run_laws.proofs.Scripts.{scripts_lawful}
use Rattle.tp_run_laws.proofs.laws.answered_scripts_are_lawful.Goals as goal

pub returns : goal.returns
returns c = scripts_lawful
