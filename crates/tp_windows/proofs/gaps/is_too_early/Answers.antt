use Rattle.std.proofs.Common.{rules, w64}
use mir.Val.{SFits}
use Rattle.tp_windows.proofs.RowFacts.{not-before, there_in}
use Rattle.tp_windows.proofs.gaps.is_too_early.Goals as goal

pub returns : goal.returns
returns c = λ early start end g is stands.
    let fits : SFits w64 c.earliest_end.result = search rules in
    not-before c.args.row.gap c.args.row.rule c.args.row.kept.now start end g c.args.at _ c.earliest_end.result (c.requires.near c.args.at _ c.requires.there) fits (there_in c.args.row.kept.now c.args.at _ c.requires.there) stands early (c.earliest_end.ensures start end is)
