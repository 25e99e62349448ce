use Rattle.std.proofs.Common.{subst, IsSomeAnd}
use Rattle.tp_windows.specs.Spans.{IsIn}
use Rattle.tp_windows.proofs.span.lasts.Goals as goal

pub returns-in-Some : goal.returns-in-Some
returns-in-Some c = λ start end is long short. c.lasts_most.ensures start end (subst (λ o. IsSomeAnd o (λ r. IsIn r start end)) c.in-Some.is (c.lasts_least.ensures start end is long)) short
