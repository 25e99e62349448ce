-- There is no farm, or it answers.
use Rattle.std.proofs.Common.{inl, inr, refl}
use Rattle.tp_program.proofs.farm_mode.farm.Goals as goal

pub returns-in-Ok-clause-ends : goal.returns-in-Ok-clause-ends
returns-in-Ok-clause-ends g c =
    let found = c.in-Ok.ensures.found in
    inr (record { machines = found.machines; listed = found.listed; has = c.farm_on.ensures.ends found.machines _ _ found.has })

pub returns-in-Err-clause-ends : goal.returns-in-Err-clause-ends
returns-in-Err-clause-ends g c = inl (c.in-Err.ensures.none, refl, refl)
