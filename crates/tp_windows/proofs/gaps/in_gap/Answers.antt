use Rattle.std.proofs.Common.{ℕ, subst, IsSomeAnd}
use Rattle.tp_windows.specs.Rows.{StandsInRow}
use Rattle.tp_windows.specs.Spans.{IsIn}
use Rattle.tp_windows.proofs.gaps.in_gap.Goals as goal

pub returns-in-Some : goal.returns-in-Some
returns-in-Some c = λ start end g same is stands.
    let at = subst (λ (n : ℕ). StandsInRow c.args.row.gap c.args.row.rule c.args.row.kept.now start end n) same stands in
    c.until_gap.ensures start end (subst (λ o. IsSomeAnd o (λ r. IsIn r start end)) c.in-Some.is (c.from_gap.ensures start end is at)) at

pub returns-in-None : goal.returns-in-None
returns-in-None c = λ start end g same is stands.
    absurd (subst (λ o. IsSomeAnd o (λ r. IsIn r start end)) c.in-None.is (c.from_gap.ensures start end is (subst (λ (n : ℕ). StandsInRow c.args.row.gap c.args.row.rule c.args.row.kept.now start end n) same stands)))
