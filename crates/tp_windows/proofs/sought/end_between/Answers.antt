use Rattle.std.proofs.Common.{subst, IsSomeAnd}
use Rattle.tp_windows.specs.Spans.{IsIn}
use Rattle.tp_windows.proofs.sought.end_between.Goals as goal

pub returns-in-Some : goal.returns-in-Some
returns-in-Some c = λ start end is behind ahead. c.end_ahead.ensures start end (subst (λ o. IsSomeAnd o (λ r. IsIn r start end)) c.in-Some.is (c.end_behind.ensures start end is behind)) ahead
