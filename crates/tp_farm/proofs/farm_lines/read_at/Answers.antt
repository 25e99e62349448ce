-- Nothing, or K alone, stands behind at.
use Rattle.std.proofs.Common.{refl, ◌∙◌}
use Rattle.tp_farm.proofs.AddressFacts.{at-few}
use Rattle.tp_farm.proofs.farm_lines.read_at.Goals as goal

pub returns-in-None-clause-address : goal.returns-in-None-clause-address
returns-in-None-clause-address c = c.bad_line.ensures ∙ at-few c.args.count _ (c.in-None.ensures.none refl)
