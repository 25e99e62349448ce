use Rattle.std.proofs.Common.{arith, rules, w64}
use mir.Val.{SFits}
use Rattle.tp_windows.proofs.RowFacts.{not-behind, there_in}
use Rattle.tp_windows.proofs.gaps.is_past.Goals as goal

pub returns : goal.returns
returns c = λ late start end g is stands.
    let some = c.if-gap-eq0.false in
    let within = c.requires.within in
    let fits : SFits w64 c.latest_begin.result = search rules in
    let le = not-behind c.args.row.gap c.args.row.rule c.args.row.kept.now start end g _ _ c.latest_begin.result (c.requires.near _ _ (omega arith)) fits (there_in c.args.row.kept.now _ _ (omega arith)) stands late (c.latest_begin.ensures start end is) in
    omega (arith, le, some)
