use Rattle.tp_program.proofs.ResumesInOrderFacts.{no_resume_is_refused}
use Rattle.tp_program.proofs.order.resumes_in_order_are_answered.Goals as goal

pub returns : goal.returns
returns c = no_resume_is_refused c.snapshots_are_read_back.ensures.verdict
