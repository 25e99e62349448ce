-- The displaced copies can fall back from the state that the module's going out leads to.
use Rattle.std.proofs.Common.{◌∙◌, sym, subst}
use Rattle.tp_event_rules.specs.FallBacks.{fall_back_unless_broken}
use Rattle.tp_event_rules.specs.LiveStates.{seen}
use Rattle.tp_event_rules.specs.Outages.{displaced, going_out}
use Rattle.tp_event_rules.specs.States.{SessionState, for_each}
use Rattle.tp_replan.specs.Meanings.{Leads}
use Rattle.tp_replan.specs.Displacement.{CanAllFall}
use Rattle.tp_replan.proofs.AllFall.{outage-all-fall}
use Rattle.tp_replan.proofs.FallFacts.{leads-on}
use Rattle.tp_replan.proofs.module_out.take_out.Goals as goal

pub fall_back_all-requires : goal.fall_back_all-requires
fall_back_all-requires c =
    let s = seen c.args.state.now in
    let mid = seen c.put_module_out.new.state in
    let m = c.args.event.module.0 in
    let jam = c.args.event.jammed in
    let copies = c.as_slice.ensures.value ∙ c.in_ok-copies.ensures.copies in
    let each = outage-all-fall c.args.machine.now m jam s (record { fall = c.requires.can; formed = c.ordered.ensures.ordered.formed }) in
    subst (λ ds. CanAllFall ds mid) (sym copies)
    (subst (CanAllFall (displaced c.args.machine.now m jam s)) (sym c.in_ok-copies.ensures.leads.state) each)

pub returns-clause-leads : goal.returns-clause-leads
returns-clause-leads c =
    let s = seen c.args.state.now in
    let mid = seen c.put_module_out.new.state in
    let end = seen c.fall_back_all.new.state in
    let m = c.args.event.module.0 in
    let jam = c.args.event.jammed in
    let notes = c.put_module_out.new.notes.items in
    let last = c.fall_back_all.new.notes.items in
    let gone = displaced c.args.machine.now m jam s in
    let copies = c.as_slice.ensures.value ∙ c.in_ok-copies.ensures.copies in
    let all = subst (λ ds. Leads (for_each fall_back_unless_broken ds mid) notes last end) copies c.in_ok-fall_back_all.ensures.leads in
    leads-on (going_out c.args.machine.now m jam s) (for_each fall_back_unless_broken gone) c.args.notes.now.items notes last end
    c.in_ok-copies.ensures.leads.told
    (subst (λ (t : SessionState). Leads (for_each fall_back_unless_broken gone t) notes last end) c.in_ok-copies.ensures.leads.state all)
