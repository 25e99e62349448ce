use Rattle.tp_run_laws.proofs.Lawful.{lines_lawful}
use Rattle.tp_run_laws.proofs.laws.answered_lines_are_lawful.Goals as goal

pub returns : goal.returns
returns c = lines_lawful
