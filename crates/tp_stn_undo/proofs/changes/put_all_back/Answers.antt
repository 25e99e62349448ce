use Rattle.std.proofs.Common.{arith, ◌∙◌, ◌-◌, take, get_or}
use Rattle.std.proofs.lemmas.List.{length-set}
use Rattle.tp_stn_undo.proofs.NoteFacts.{last_of_first, no_saved, restored_popped}
use Rattle.tp_stn_undo.proofs.changes.put_all_back.Goals as goal

pub back-preserved : goal.back-preserved
back-preserved c =
    let entries = c.args.entries.now in
    let inv = c.back.invariant in
    let e = get_or entries (c.back.left - 1) no_saved in
    let last = last_of_first entries c.back.left c.back-test.true inv.within in
    record {
      within = omega (arith, inv.within);
      len = length-set c.back.states e.point.0 e.state ∙ inv.len;
      states = restored_popped (take (c.back.left - 1) entries) (take c.back.left entries) e c.back.states last ∙ inv.states;
    }
