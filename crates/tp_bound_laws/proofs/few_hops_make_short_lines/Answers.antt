use Rattle.tp_bound_laws.proofs.ShortLines.{few-short}
use Rattle.tp_bound_laws.proofs.few_hops_make_short_lines.Goals as goal

pub returns : goal.returns
returns c = few-short
