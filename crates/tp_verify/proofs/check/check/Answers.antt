-- There is no machine, or the log is checked as one of it.
use Rattle.std.proofs.Common.{inl, inr, refl}
use Rattle.tp_verify.proofs.check.check.Goals as goal

pub returns-in-Ok-clause-ends : goal.returns-in-Ok-clause-ends
returns-in-Ok-clause-ends g c = inr (record { machine = c.in-Ok.machine; text = c.in-Ok.ensures.found; did = c.check_on.ensures.ends })

pub returns-in-Err-clause-ends : goal.returns-in-Err-clause-ends
returns-in-Err-clause-ends g c = inl (c.in-Err.ensures.none, refl, refl)
