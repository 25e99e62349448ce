use Rattle.std.proofs.Common.{◌∙◌}
use Rattle.tp_base.proofs.MarkFacts.{last_mark}
use Rattle.rows_engines.proofs.network_probes.could_take.Goals as goal

pub returns-in-Err-clause-net : goal.returns-in-Err-clause-net
returns-in-Err-clause-net g c =
    last_mark _ _ _ _ _ (c.require.ensures.past ∙ c.set_mark-mark.ensures.past) c.set_mark-mark.ensures.number c.go_back-in-Err.ensures.net

pub returns-in-Err-clause-no : goal.returns-in-Err-clause-no
returns-in-Err-clause-no g c _ =
    let e = c.set_mark-mark.ensures.net in
    rw (← e) c.in-Err.ensures.late
