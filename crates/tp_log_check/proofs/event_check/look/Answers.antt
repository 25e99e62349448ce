use Rattle.std.proofs.Common.{sym, ap, subst, ◌∙◌}
use Rattle.tp_log_laws.specs.AcceptedEntries.{IsAccepted}
use Rattle.tp_event_rules.specs.LiveStates.{seen}
use Rattle.tp_event_rules.specs.Ready.{CanTakeEvents, KeepsStock}
use Rattle.tp_log_check.specs.EventEntry.{entry}
use Rattle.tp_log_check.specs.Lawful.{AreInPlaces, HasNoTurn, LeadsTo}
use Rattle.tp_log_check.specs.Gathered.{ArePlain}
use Rattle.tp_log_check.specs.Causes.{IsDueOrStops}
use Rattle.tp_log_check.proofs.Sections.{is-none}
use Rattle.tp_log_check.proofs.event_check.look.Goals as goal

pub returns-in-Ok-None-clause-accepted : goal.returns-in-Ok-None-clause-accepted
returns-in-Ok-None-clause-accepted c =
    let is : IsAccepted c.args.machine.now (seen c.remember.new.self) (entry c.args.pending.now.event c.new-told.result.items) (seen c.judge.new.state) = c.in-Ok-None.ensures.accepted (is-none c.in-Ok-None.field-0 c.in-Ok-None.field-0-is) in
    let items = c.new-told.ensures.items ∙ ap (λ v. v.items) c.replace-items.ensures.value in
    subst (λ is. IsAccepted c.args.machine.now (seen c.args.state.now) (entry c.args.pending.now.event is) (seen c.judge.new.state)) items
    (subst (λ s. IsAccepted c.args.machine.now s (entry c.args.pending.now.event c.new-told.result.items) (seen c.judge.new.state)) c.remember.ensures.stays is)

pub returns-in-Ok-None-clause-kept : goal.returns-in-Ok-None-clause-kept
returns-in-Ok-None-clause-kept c nothing copies can =
    c.in-Ok-None.ensures.kept (is-none c.in-Ok-None.field-0 c.in-Ok-None.field-0-is) copies (subst (CanTakeEvents c.args.machine.now copies) (sym c.remember.ensures.stays) can)

pub returns-in-Ok-None-clause-stocked : goal.returns-in-Ok-None-clause-stocked
returns-in-Ok-None-clause-stocked c nothing events keeps =
    c.in-Ok-None.ensures.stocked (is-none c.in-Ok-None.field-0 c.in-Ok-None.field-0-is) events (subst (KeepsStock c.args.machine.now events) (sym c.remember.ensures.stays) keeps)

pub returns-in-Ok-None-clause-only : goal.returns-in-Ok-None-clause-only
returns-in-Ok-None-clause-only c =
    let is : LeadsTo c.args.machine.now (seen c.remember.new.self) c.args.pending.now.event c.new-told.result.items (seen c.judge.new.state) = rw c.in-Ok-None.field-0-is at c.in-Ok-None.ensures.only in
    let items = c.new-told.ensures.items ∙ ap (λ v. v.items) c.replace-items.ensures.value in
    subst (λ is. LeadsTo c.args.machine.now (seen c.args.state.now) c.args.pending.now.event is (seen c.judge.new.state)) items
    (subst (λ s. LeadsTo c.args.machine.now s c.args.pending.now.event c.new-told.result.items (seen c.judge.new.state)) c.remember.ensures.stays is)

pub returns-in-Ok-Some-clause-only : goal.returns-in-Ok-Some-clause-only
returns-in-Ok-Some-clause-only c =
    let is : HasNoTurn c.args.machine.now (seen c.remember.new.self) c.args.pending.now.event c.new-told.result.items = rw c.in-Ok-Some.field-0-is at c.in-Ok-Some.ensures.only in
    let items = c.new-told.ensures.items ∙ ap (λ v. v.items) c.replace-items.ensures.value in
    subst (λ is. HasNoTurn c.args.machine.now (seen c.args.state.now) c.args.pending.now.event is) items
    (subst (λ s. HasNoTurn c.args.machine.now s c.args.pending.now.event c.new-told.result.items) c.remember.ensures.stays is)

pub returns-in-Ok-None-clause-places : goal.returns-in-Ok-None-clause-places
returns-in-Ok-None-clause-places c nothing plain =
    let items = c.new-told.ensures.items ∙ ap (λ v. v.items) c.replace-items.ensures.value in
    subst AreInPlaces items (c.in-Ok-None.ensures.places (is-none c.in-Ok-None.field-0 c.in-Ok-None.field-0-is) (subst ArePlain (sym items) plain))

pub returns-in-Ok-Some-clause-why : goal.returns-in-Ok-Some-clause-why
returns-in-Ok-Some-clause-why c =
    let is = rw c.in-Ok-Some.field-0-is at c.in-Ok-Some.ensures.why in
    let items = c.new-told.ensures.items ∙ ap (λ v. v.items) c.replace-items.ensures.value in
    subst (λ is. IsDueOrStops c.args.machine.now (seen c.args.state.now) c.args.pending.now.event is c.in-Ok-Some.stop) items
    (subst (λ s. IsDueOrStops c.args.machine.now s c.args.pending.now.event c.new-told.result.items c.in-Ok-Some.stop) c.remember.ensures.stays is)
