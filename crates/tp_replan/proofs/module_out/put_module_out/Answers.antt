-- The fates are those of the outage, and fit.
use Rattle.std.proofs.Common.{◌∙◌, [], ap, map, Contains}
use Rattle.std.proofs.lemmas.List.Elements.{All-contains}
use Rattle.tp_machine.specs.ModuleUse.{put_out}
use Rattle.tp_schedule.specs.Plans.{IsFormed}
use Rattle.tp_schedule.specs.declared.parts.Plan.{Plan}
use Rattle.tp_event_rules.specs.LiveStates.{seen}
use Rattle.tp_event_rules.specs.Outages.{fate_in_outage}
use Rattle.tp_event_rules.specs.Seen.{HasStarted}
use Rattle.tp_event_rules.specs.States.{SessionState}
use Rattle.tp_replan.specs.Meanings.{meant}
use Rattle.tp_replan.specs.Open.{Fits}
use Rattle.tp_replan.proofs.OpenFacts.{can-room, can-wait, cut-started, one-each}
use Rattle.tp_replan.proofs.OutFacts.{outage-fits}
use Rattle.tp_replan.proofs.module_out.put_module_out.Goals as goal

pub tell_outage-requires-clause-each : goal.tell_outage-requires-clause-each
tell_outage-requires-clause-each c =
    one-each _ c.args.state.now.schedule.plans c.as_slice.result.now (ap (map meant) c.as_slice.ensures.value ∙ c.in_ok-fates.ensures)

pub displaced_by-requires : goal.displaced_by-requires
displaced_by-requires c =
    one-each _ c.args.state.now.schedule.plans c.as_slice-2.result.now (ap (map meant) c.as_slice-2.ensures.value ∙ c.in_ok-fates.ensures)

pub befall-requires-clause-each : goal.befall-requires-clause-each
befall-requires-clause-each c =
    one-each _ c.args.state.now.schedule.plans c.as_slice-3.result.now (ap (map meant) c.as_slice-3.ensures.value ∙ c.in_ok-fates.ensures)

pub befall-requires-clause-started : goal.befall-requires-clause-started
befall-requires-clause-started c =
    let s = seen c.args.state.now in
    let rule = fate_in_outage c.args.machine.now c.args.event.module.0 c.args.event.jammed s in
    let fits : (p : Plan) → Contains s.plans p → Fits s p (rule p) =
    λ p in'. outage-fits c.args.machine.now c.args.event.module.0 c.args.event.jammed s p
    (All-contains IsFormed s.plans p c.ordered.ensures.ordered.formed in') (All-contains (HasStarted s.now) s.plans p c.requires.can.purges in') in
    cut-started s rule c.as_slice-3.result.now fits (ap (map meant) c.as_slice-3.ensures.value ∙ c.in_ok-fates.ensures)

pub befall-requires-clause-can_wait : goal.befall-requires-clause-can_wait
befall-requires-clause-can_wait c =
    let s = seen c.args.state.now in
    let rule = fate_in_outage c.args.machine.now c.args.event.module.0 c.args.event.jammed s in
    let fits : (p : Plan) → Contains s.plans p → Fits s p (rule p) =
    λ p in'. outage-fits c.args.machine.now c.args.event.module.0 c.args.event.jammed s p
    (All-contains IsFormed s.plans p c.ordered.ensures.ordered.formed in') (All-contains (HasStarted s.now) s.plans p c.requires.can.purges in') in
    can-wait s [] rule c.as_slice-3.result.now c.requires.can fits (ap (map meant) c.as_slice-3.ensures.value ∙ c.in_ok-fates.ensures)

pub befall-requires-clause-room : goal.befall-requires-clause-room
befall-requires-clause-room c =
    let s = seen c.args.state.now in
    let rule = fate_in_outage c.args.machine.now c.args.event.module.0 c.args.event.jammed s in
    let fits : (p : Plan) → Contains s.plans p → Fits s p (rule p) =
    λ p in'. outage-fits c.args.machine.now c.args.event.module.0 c.args.event.jammed s p
    (All-contains IsFormed s.plans p c.ordered.ensures.ordered.formed in') (All-contains (HasStarted s.now) s.plans p c.requires.can.purges in') in
    can-room s [] rule c.as_slice-3.result.now c.requires.can fits (ap (map meant) c.as_slice-3.ensures.value ∙ c.in_ok-fates.ensures)

pub returns-clause-leads : goal.returns-clause-leads
returns-clause-leads c =
    let s = seen c.args.state.now in
    let machine = c.args.machine.now in
    let m = c.args.event.module.0 in
    let jam = c.args.event.jammed in
    let rule = fate_in_outage machine m jam s in
    let befallen = c.in_ok-befall.ensures.follows rule (ap (map meant) c.as_slice-3.ensures.value ∙ c.in_ok-fates.ensures) in
    let outs = c.put_out-state.ensures ∙ ap (λ (t : SessionState). put_out t.outs m) befallen in
    record {
      told = c.in_ok-tell_outage.ensures machine m jam (ap (map meant) c.as_slice.ensures.value ∙ c.in_ok-fates.ensures);
      state = λ k. record (befallen k) { outs = outs k };
    }
