use Rattle.std.proofs.Common.{◌≡◌, length, rules, sym, ◌∙◌}
use Rattle.tp_windows.proofs.RowCuts.{length-rows}
use Rattle.tp_windows.proofs.kept_rows.KeptRows.len.Goals as goal

pub returns : goal.returns
returns c =
    let count : c.len.result ≡ length c.self.inside.ends.items = search rules in
    rw (← c.self.view_is) (count ∙ sym (length-rows c.self.inside.holds.items 0 c.self.inside.ends.items))
