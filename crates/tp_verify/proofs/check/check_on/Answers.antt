-- The log is accepted, or it stopped.
use Rattle.std.proofs.Common.{refl, subst, sym}
use Rattle.tp_verify.specs.Checks.{ChecksOn}
use Rattle.tp_verify.proofs.CheckFacts.{checks-accepted, checks-stopped}
use Rattle.tp_verify.proofs.check.check_on.Goals as goal

pub returns-in-Ok-clause-ends : goal.returns-in-Ok-clause-ends
returns-in-Ok-clause-ends g c = checks-accepted g.K.Sink.taken c.args.machine _ _ _ _ c.in-Ok.counts c.in-Ok.ensures.accepted c.in-Ok.ensures.end _ c.accept.ensures.ends

pub returns-in-Err-clause-ends : goal.returns-in-Err-clause-ends
returns-in-Err-clause-ends g c =
    subst (ChecksOn g.K.Sink.taken c.args.machine _ _ _ _) (sym c.status_of.ensures) (checks-stopped g.K.Sink.taken c.args.machine _ _ _ _ c.in-Err.cause c.in-Err.ensures.stops refl)
