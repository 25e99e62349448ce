use Rattle.tp_windows.proofs.RowFacts.{small-end, small-rest, take-gap, there_in}
use Rattle.tp_windows.proofs.gaps.before.Goals as goal

pub returns : goal.returns
returns c = λ start end g is more stands.
    c.ends_before.ensures start end is
    (take-gap _ _ _ _ _ (small-end _ (c.requires.near c.args.place _ c.requires.there).begin_low (c.requires.near c.args.place _ c.requires.there).begin_high) (small-rest _ c.less_gap.ensures.low c.less_gap.ensures.high)
    c.less_gap.ensures.sum c.gap_between-gap.ensures.gap (stands.before c.args.place _ more (there_in c.args.row.kept.now c.args.place _ c.requires.there)))
