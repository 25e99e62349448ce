-- A later copy of the line is entering, or the line makes way.
use Rattle.std.proofs.Common.{◌≡◌, ◌∙◌, [], ap, sym, subst}
use Rattle.tp_schedule.specs.declared.parts.SheetId.{SheetId}
use Rattle.tp_event_rules.specs.FallBacks.{Displaced, is_line_entering, later_fall_back, next_waits}
use Rattle.tp_event_rules.specs.LiveStates.{seen}
use Rattle.tp_event_rules.specs.States.{Outcome, SessionState}
use Rattle.tp_replan.specs.Meanings.{Leads}
use Rattle.tp_replan.specs.Open.{CanFall, to_wait}
use Rattle.tp_replan.proofs.FallFacts.{leads-on, makes-way, next-can, next-room, not-yet, without-pending}
use Rattle.tp_replan.proofs.fall_backs.fall_back.Goals as goal

pub break_job-requires-clause-can : goal.break_job-requires-clause-can
break_job-requires-clause-can c = without-pending (seen c.args.state.now) (to_wait c.args.displaced.now) c.requires.can

pub wait_next-requires-clause-new_copy : goal.wait_next-requires-clause-new_copy
wait_next-requires-clause-new_copy c = not-yet (seen c.args.state.now) c.args.displaced.now c.requires.can

pub wait_next-requires-clause-room : goal.wait_next-requires-clause-room
wait_next-requires-clause-room c = next-room (seen c.args.state.now) c.args.displaced.now c.requires.can

pub make_way-requires-clause-can : goal.make_way-requires-clause-can
make_way-requires-clause-can c =
    subst (λ (t : SessionState). CanFall t []) (sym c.in_ok-wait_next.ensures.leads.state)
    (next-can (seen c.args.state.now) c.args.displaced.now c.requires.can)

pub returns-in_ok-make_way-clause-leads : goal.returns-in_ok-make_way-clause-leads
returns-in_ok-make_way-clause-leads c =
    let s = seen c.args.state.now in
    let d : Displaced = c.args.displaced.now in
    let notes = c.args.notes.now.items in
    let mid = c.wait_next.new.notes.items in
    let last = c.make_way.new.notes.items in
    let end = seen c.make_way.new.state in
    let same : c.displaced.inside.sheet ≡ d.sheet = ap (λ (x : Displaced). x.sheet) c.displaced.view_is in
    let none = c.if-is_line_entering.ensures ∙ ap (is_line_entering s) same in
    let then = subst (λ (t : SessionState). Leads (later_fall_back d.sheet t) mid last end) c.in_ok-wait_next.ensures.leads.state
    (subst (λ (x : SheetId). Leads (later_fall_back x (seen c.wait_next.new.state)) mid last end) same c.in_ok-make_way.ensures.leads) in
    subst (λ (o : Outcome). Leads o notes last end) (sym (makes-way s d none))
    (leads-on (next_waits d s) (later_fall_back d.sheet) notes mid last end c.in_ok-wait_next.ensures.leads.told then)
