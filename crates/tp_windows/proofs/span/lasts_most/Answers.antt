use Rattle.std.proofs.Common.{subst, IsSomeAnd}
use Rattle.tp_windows.specs.Spans.{IsIn}
use Rattle.tp_windows.proofs.span.lasts_most.Goals as goal

pub returns-in-Some : goal.returns-in-Some
returns-in-Some c = λ start end is short. c.ends_within.ensures start end (subst (λ o. IsSomeAnd o (λ r. IsIn r start end)) c.in-Some.is (c.starts_after.ensures start end is short)) short
