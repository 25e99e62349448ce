use Rattle.tp_windows.proofs.RowFacts.{add-gap, small-end, small-sum, there_in}
use Rattle.tp_windows.proofs.gaps.behind.Goals as goal

pub returns : goal.returns
returns c = λ start end g is less stands.
    c.begins_behind.ensures start end is
    (add-gap _ _ _ _ _ (small-end _ (c.requires.near c.args.place _ c.requires.there).end_low (c.requires.near c.args.place _ c.requires.there).end_high) (small-sum _ c.with_gap.ensures.low c.with_gap.ensures.high)
    c.with_gap.ensures.sum c.gap_between-gap.ensures.gap (stands.behind c.args.place _ less (there_in c.args.row.kept.now c.args.place _ c.requires.there)))
