-- The line is made and written, or not.
use Rattle.tp_program.proofs.SaveEndFacts.{wrote_part, wrote_whole}
use Rattle.tp_program.proofs.save_mode.write_line.Goals as goal

pub returns-in-Ok-write_all-clause-ends : goal.returns-in-Ok-write_all-clause-ends
returns-in-Ok-write_all-clause-ends g c = wrote_whole _ _ _ _ _ _ c.in-Ok.ensures c.deref.ensures.value c.in-Ok-write_all.ensures.whole

pub returns-clause-ends : goal.returns-clause-ends
returns-clause-ends g c = wrote_part _ _ _ _ _ _ c.in-Ok.ensures c.deref.ensures.value c.in-Err-write_all.ensures.part
