-- The lost copies are reported of first.
use Rattle.std.proofs.Common.{◌++◌, ◌∙◌, ap, map, append_assoc}
use Rattle.tp_event_rules.specs.Fates.{told_by}
use Rattle.tp_event_rules.specs.LiveStates.{seen}
use Rattle.tp_event_rules.specs.Outages.{fate_of_running, fate_unless_lost}
use Rattle.tp_replan.specs.Meanings.{meant}
use Rattle.tp_replan.proofs.OutFacts.{alone-by, aside-by}
use Rattle.tp_replan.proofs.module_out.tell_outage.Goals as goal

pub returns : goal.returns
returns c = λ machine m jam e.
    let s = seen c.args.state.now in
    let fates = c.args.fates.now in
    let first = c.in_ok-tell_fates.ensures (fate_of_running machine m jam s)
    (ap (map meant) (c.as_slice.ensures.value ∙ c.in_ok-alone.ensures) ∙ alone-by machine m jam s fates e) in
    let then = c.in_ok-tell_fates-2.ensures (fate_unless_lost machine m jam s)
    (ap (map meant) (c.as_slice-2.ensures.value ∙ c.in_ok-others.ensures) ∙ aside-by machine m jam s fates e) in
    let later = told_by (fate_unless_lost machine m jam s) s in
    then ∙ ap (λ notes. notes ++ later) first ∙ append_assoc c.args.notes.now.items (told_by (fate_of_running machine m jam s) s) later
