use Rattle.tp_program.proofs.FarmFacts.{farm-answered, farm-run, farm-stopped}
use Rattle.tp_program.proofs.farm_laws.farms_are_lawful.Goals as goal

pub returns-clause-lines : goal.returns-clause-lines
returns-clause-lines c = farm-run

pub returns-clause-whole : goal.returns-clause-whole
returns-clause-whole c = farm-answered

pub returns-clause-stopped : goal.returns-clause-stopped
returns-clause-stopped c = farm-stopped
