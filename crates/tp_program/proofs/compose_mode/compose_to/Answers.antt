-- Nothing is composed, or what is composed is written.
use Rattle.std.proofs.Common.{inl, inr, refl}
use Rattle.tp_program.proofs.ComposeFacts.{wrote_part, wrote_whole}
use Rattle.tp_program.proofs.compose_mode.compose_to.Goals as goal

pub returns-in-Err-clause-ends : goal.returns-in-Err-clause-ends
returns-in-Err-clause-ends g c = inl (c.in-Err.ensures.none, refl)

pub returns-in-Ok-write_all-clause-ends : goal.returns-in-Ok-write_all-clause-ends
returns-in-Ok-write_all-clause-ends g c = inr (wrote_whole _ _ _ _ _ _ c.in-Ok.ensures.composed c.deref.ensures.value c.in-Ok-write_all.ensures.whole)

pub returns-clause-ends : goal.returns-clause-ends
returns-clause-ends g c = inr (wrote_part _ _ _ _ _ _ c.in-Ok.ensures.composed c.deref.ensures.value c.in-Err-write_all.ensures.part)
