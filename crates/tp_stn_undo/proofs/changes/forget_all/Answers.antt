use Rattle.std.proofs.Common.{arith, ◌∙◌, ◌-◌, take, get_or, false}
use Rattle.std.proofs.lemmas.List.{length-set}
use Rattle.tp_stn_undo.proofs.NoteFacts.{held_popped, last_of_first, no_saved}
use Rattle.tp_stn_undo.proofs.changes.forget_all.Goals as goal

pub back-preserved : goal.back-preserved
back-preserved c =
    let entries = c.args.entries.now in
    let inv = c.back.invariant in
    let e = get_or entries (c.back.left - 1) no_saved in
    record {
      within = omega (arith, inv.within);
      held = held_popped c.back.noted (take (c.back.left - 1) entries) (take c.back.left entries) e (last_of_first entries c.back.left c.back-test.true inv.within) inv.held;
      len = length-set c.back.noted e.point.0 false ∙ inv.len;
    }
