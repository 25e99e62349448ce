-- Each mode ends as its function says.
use Rattle.std.proofs.Common.{refl}
use Rattle.tp_command.specs.App.{seen}
use Rattle.tp_command.specs.declared.request.Mode.TheVariants.{Run, Save, Resume, Check, Soak, Compose, Farm}
use Rattle.tp_program.proofs.AskedFacts.{amiss_arg, amiss_listed, as_asked}
use Rattle.tp_program.proofs.printer.answer.Goals as goal

pub returns-in-Run-clause-ends : goal.returns-in-Run-clause-ends
returns-in-Run-clause-ends g c = as_asked g.S.Source.left g.K.Sink.taken _ _ _ _ _ (seen c.args.request.now) _ Run c.in-Run.is c.run.ensures.ends

pub returns-in-Check-clause-ends : goal.returns-in-Check-clause-ends
returns-in-Check-clause-ends g c = as_asked g.S.Source.left g.K.Sink.taken _ _ _ _ _ (seen c.args.request.now) _ Check c.in-Check.is c.check.ensures.ends

pub returns-in-Save-clause-ends : goal.returns-in-Save-clause-ends
returns-in-Save-clause-ends g c = as_asked g.S.Source.left g.K.Sink.taken _ _ _ _ _ (seen c.args.request.now) _ Save c.in-Save.is c.save.ensures.ends

pub returns-in-Resume-clause-ends : goal.returns-in-Resume-clause-ends
returns-in-Resume-clause-ends g c = as_asked g.S.Source.left g.K.Sink.taken _ _ _ _ _ (seen c.args.request.now) _ Resume c.in-Resume.is c.resume.ensures.ends

pub returns-in-Compose-clause-ends : goal.returns-in-Compose-clause-ends
returns-in-Compose-clause-ends g c =
    as_asked g.S.Source.left g.K.Sink.taken _ _ _ _ _ (seen c.args.request.now) _ Compose c.in-Compose.is (refl, c.compose_to.ensures.ends)

pub returns-in-Farm-clause-ends : goal.returns-in-Farm-clause-ends
returns-in-Farm-clause-ends g c = as_asked g.S.Source.left g.K.Sink.taken _ _ _ _ _ (seen c.args.request.now) _ Farm c.in-Farm.is c.farm.ensures.ends

pub returns-in-Run-clause-amiss : goal.returns-in-Run-clause-amiss
returns-in-Run-clause-amiss g c = λ is. amiss_arg _ _ (seen c.args.request.now) (c.run.ensures.amiss is)

pub returns-in-Check-clause-amiss : goal.returns-in-Check-clause-amiss
returns-in-Check-clause-amiss g c = λ is. amiss_arg _ _ (seen c.args.request.now) (c.check.ensures.amiss is)

pub returns-in-Save-clause-amiss : goal.returns-in-Save-clause-amiss
returns-in-Save-clause-amiss g c = λ is. amiss_arg _ _ (seen c.args.request.now) (c.save.ensures.amiss is)

pub returns-in-Resume-clause-amiss : goal.returns-in-Resume-clause-amiss
returns-in-Resume-clause-amiss g c = λ is. amiss_arg _ _ (seen c.args.request.now) (c.resume.ensures.amiss is)

pub returns-in-Compose-clause-amiss : goal.returns-in-Compose-clause-amiss
returns-in-Compose-clause-amiss g c = λ is. amiss_arg _ _ (seen c.args.request.now) (c.compose_to.ensures.amiss is)

pub returns-in-Farm-clause-amiss : goal.returns-in-Farm-clause-amiss
returns-in-Farm-clause-amiss g c = λ is. amiss_listed _ _ (seen c.args.request.now) c.in-Farm.is (c.farm.ensures.amiss is)

pub returns-in-Soak-clause-ends : goal.returns-in-Soak-clause-ends
returns-in-Soak-clause-ends g c =
    as_asked g.S.Source.left g.K.Sink.taken _ _ _ _ _ (seen c.args.request.now) _ Soak c.in-Soak.is (refl, c.soak_to.ensures.ends)
