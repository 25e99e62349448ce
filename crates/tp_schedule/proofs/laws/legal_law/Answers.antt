use Rattle.tp_schedule.proofs.LawFacts.{one_holder_is_apart}
use Rattle.tp_schedule.proofs.LegalFacts.{IsLegal-without}
use Rattle.tp_schedule.proofs.laws.legal_law.Goals as goal

pub returns-clause-one_holder : goal.returns-clause-one_holder
returns-clause-one_holder c = one_holder_is_apart

pub returns-clause-without : goal.returns-clause-without
returns-clause-without c = IsLegal-without
