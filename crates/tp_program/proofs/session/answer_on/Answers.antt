-- The script is answered from where the session stands; or none could be made, and nothing was read.
use Rattle.std.proofs.lemmas.Result.{IfErr-weaker, IfOk-weaker}
use Rattle.tp_program.proofs.RunFacts.{never_began, stopped_at, taken_at}
use Rattle.tp_program.proofs.session.answer_on.Goals as goal

pub returns-in-Ok-clause-all : goal.returns-in-Ok-clause-all
returns-in-Ok-clause-all g c = IfOk-weaker c.answer_script.result _ _ (λ s. taken_at _ _ _ _ c.in-Ok.session.standing _ s.standing c.in-Ok.ensures.begins) c.answer_script.ensures.all

pub returns-in-Ok-clause-stops : goal.returns-in-Ok-clause-stops
returns-in-Ok-clause-stops g c = IfErr-weaker c.answer_script.result _ _ (λ cause. stopped_at _ _ _ _ c.in-Ok.session.standing _ cause c.in-Ok.ensures.begins) c.answer_script.ensures.stops

pub returns-in-Err-clause-stops : goal.returns-in-Err-clause-stops
returns-in-Err-clause-stops g c = never_began _ _ _
