-- There is no snapshot, or the run from it.
use Rattle.std.proofs.Common.{inl, inr, refl}
use Rattle.tp_program.proofs.resume_mode.resume.Goals as goal

pub returns-in-Ok-clause-ends : goal.returns-in-Ok-clause-ends
returns-in-Ok-clause-ends g c = inr (record {
  machine = c.in-Ok.opened.machine;
  standing = c.in-Ok.opened.standing;
  snapshot = c.in-Ok.ensures.found;
  sound = c.in-Ok.ensures.sound;
  whole = c.sessions_go_on.ensures.sound c.in-Ok.opened.machine c.in-Ok.opened.standing c.in-Ok.ensures.sound;
  did = c.resume_on.ensures.ends;
})

pub returns-in-Err-clause-ends : goal.returns-in-Err-clause-ends
returns-in-Err-clause-ends g c = inl (c.in-Err.ensures.none, refl, refl)
