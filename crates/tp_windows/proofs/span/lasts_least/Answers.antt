use Rattle.std.proofs.Common.{subst, IsSomeAnd}
use Rattle.tp_windows.specs.Spans.{IsIn}
use Rattle.tp_windows.proofs.span.lasts_least.Goals as goal

pub returns-in-Some : goal.returns-in-Some
returns-in-Some c = λ start end is long. c.starts_before.ensures start end (subst (λ o. IsSomeAnd o (λ r. IsIn r start end)) c.in-Some.is (c.ends_after.ensures start end is long)) long
