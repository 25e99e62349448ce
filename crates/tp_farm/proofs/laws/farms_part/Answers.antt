use Rattle.tp_farm.proofs.MachineParts.{farms_part}
use Rattle.tp_farm.proofs.laws.farms_part.Goals as goal

pub returns : goal.returns
returns g c = farms_part g.T.Teller.tells g.T.Teller.probes
