use Rattle.tp_bound_laws.proofs.AllowedLineHops.{hops_allowed}
use Rattle.tp_bound_laws.proofs.HopsTold.{hops_told}
use Rattle.tp_bound_laws.proofs.reasons_are_allowed_hops.Goals as goal

pub returns-clause-alone : goal.returns-clause-alone
returns-clause-alone c = hops_allowed

pub returns-clause-told : goal.returns-clause-told
returns-clause-told c = hops_told
