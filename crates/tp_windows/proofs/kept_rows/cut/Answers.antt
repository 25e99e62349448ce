use Rattle.std.proofs.Common.{ap, sym, ◌∙◌, arith, Some, subst, All}
use Rattle.std.specs.Prelude.{slice_index, slice_range}
use Rattle.std.proofs.lemmas.List.Elements.{All-drop, All-take}
use Rattle.tp_windows.specs.Rows.{IsNear}
use Rattle.tp_windows.proofs.RowCuts.{rises, row_there}
use Rattle.tp_windows.proofs.kept_rows.cut.Goals as goal

pub part-requires-clause-from : goal.part-requires-clause-from
part-requires-clause-from c =
    let r = (rises 0 c.args.ends.now _ c.args.at c.requires.rising c.requires.there).0 in
    let e = c.start_of-from.ensures in
    omega (arith, r, e)

pub part-requires-clause-till : goal.part-requires-clause-till
part-requires-clause-till c = (rises 0 c.args.ends.now _ c.args.at c.requires.rising c.requires.there).1

pub returns-clause-row : goal.returns-clause-row
returns-clause-row c =
    row_there c.args.holds.now 0 c.args.ends.now c.args.at c.requires.there
    ∙ ap Some (ap (λ f. slice_range c.args.holds.now f (slice_index c.args.ends.now c.args.at)) (sym c.start_of-from.ensures) ∙ sym c.part.ensures)

pub returns-clause-near : goal.returns-clause-near
returns-clause-near c near = subst (All IsNear) (sym c.part.ensures) (All-take IsNear _ _ (All-drop IsNear _ _ near))
