use Rattle.std.proofs.Common.{◌≡◌, ◌∷◌, inr, ◌+◌, ◌<◌, ◌^◌, ◌++◌, ap, sym, subst, ◌∙◌}
use Rattle.std.specs.Prelude.{IfSome, option_map}
use Rattle.tp_log_check.specs.Gathered.{IsPending}
use Rattle.tp_event_rules.specs.LiveStates.{seen}
use Rattle.tp_log.specs.declared.item.Item.TheVariants.{Event}
use Rattle.tp_log_check.specs.Causes.{HasCause, IsDueOrStops, flaw_at}
use Rattle.tp_log_check.proofs.FlawCauses.{caused}
use Rattle.tp_log_check.specs.CheckerState.{CheckerValue, HasTaken, underway}
use Rattle.tp_log_check.specs.Heights.{heights}
use Rattle.tp_log_check.specs.FlawLines.{LiesBehind}
use Rattle.tp_log_check.specs.Lawful.{IsLawfulLog}
use Rattle.tp_log_check.proofs.PendingFacts.{plain_closed}
use Rattle.tp_log_check.proofs.RefusedLogs.{taken-none}
use Rattle.tp_log_check.proofs.FlawPlaces.{found-ended, told-ended}
use Rattle.tp_log_check.proofs.Sections.{is-none, keeps-stock, taken-more, went-on}
use Rattle.tp_log_check.proofs.checker.LogChecker.end_event.Goals as goal

pub look-requires-clause-stocked : goal.look-requires-clause-stocked
look-requires-clause-stocked c = keeps-stock c.self.inside.machine (seen c.self.inside.state) c.self.inside.pending c.self.inside.events c.self.invariant.0

pub invariant_of-self-in-Ok-None : goal.invariant_of-self-in-Ok-None
invariant_of-self-in-Ok-None c =
    let is = sym c.take.ensures.value ∙ c.in-Some.is in
    let none = is-none c.in-Ok-None.field-0 c.in-Ok-None.field-0-is in (
      went-on c.self.inside.machine (seen c.self.inside.state) (seen c.look.new.state) c.in-Some.pending c.self.inside.pending c.take.new.self c.self.inside.events c.self.invariant.0 is c.take.ensures.after
          (c.in-Ok-None.ensures.kept none) (c.in-Ok-None.ensures.stocked none),
      c.self.invariant.1,
    )

pub returns-in-Ok-None-clause-taken : goal.returns-in-Ok-None-clause-taken
returns-in-Ok-None-clause-taken c told h =
    let is = sym c.take.ensures.value ∙ c.in-Some.is in
    let p = c.in-Some.pending in
    let inside = c.self.inside in
    let pending : IsPending p = subst (λ o. IfSome o IsPending) is c.self.invariant.0.under in
    let accepted = rw c.in-Ok-None.field-0-is at c.in-Ok-None.ensures.accepted in
    let places = c.in-Ok-None.ensures.places (is-none c.in-Ok-None.field-0 c.in-Ok-None.field-0-is)
    (plain_closed p.event c.end.new.self.event p.items.items c.end.new.self.items.items p.tree c.in-Ok.ensures.items pending.plain) in
    let leads = rw c.in-Ok-None.field-0-is at c.in-Ok-None.ensures.only in
    let seen_h = subst (λ v. HasTaken v told) (sym c.self.view_is) h in
    let with_p = subst (λ o. HasTaken (record { machine = inside.machine; state = seen inside.state; under = option_map underway o; events = inside.events; lines = inside.lines; counts = inside.counts; flaw = inside.flaw }) told) is seen_h in
    let more = taken-more inside.machine (seen inside.state) (seen c.look.new.state) inside.events inside.lines inside.counts inside.flaw p c.end.new.self pending c.in-Ok.ensures.items accepted leads places told with_p in
    subst (λ o. HasTaken (record { machine = inside.machine; state = seen c.look.new.state; under = option_map underway o; events = inside.events; lines = inside.lines; counts = inside.counts; flaw = inside.flaw }) told) (sym c.take.ensures.after) more

pub returns-in-Ok-Some-clause-refused : goal.returns-in-Ok-Some-clause-refused
returns-in-Ok-Some-clause-refused c other told more h cut lawful =
    let is = sym c.take.ensures.value ∙ c.in-Some.is in
    let p = c.in-Some.pending in
    let inside = c.self.inside in
    let pending : IsPending p = subst (λ o. IfSome o IsPending) is c.self.invariant.0.under in
    let none = rw c.in-Ok-Some.field-0-is at c.in-Ok-Some.ensures.only in
    let seen_h = subst (λ v. HasTaken v told) (sym c.self.view_is) h in
    let with_p = subst (λ o. HasTaken (record { machine = inside.machine; state = seen inside.state; under = option_map underway o; events = inside.events; lines = inside.lines; counts = inside.counts; flaw = inside.flaw }) told) is seen_h in
    taken-none inside.machine (seen inside.state) inside.events inside.lines inside.counts inside.flaw p c.end.new.self pending c.in-Ok.ensures.items none told more with_p cut
    (subst (λ m. IsLawfulLog m (told ++ more)) (sym (ap (λ v. v.machine) c.self.view_is)) lawful)

pub returns-in-Ok-Some-clause-lies : goal.returns-in-Ok-Some-clause-lies
returns-in-Ok-Some-clause-lies c other told h fits =
    let is = sym c.take.ensures.value ∙ c.in-Some.is in
    let p = c.in-Some.pending in
    let inside = c.self.inside in
    let pending : IsPending p = subst (λ o. IfSome o IsPending) is c.self.invariant.0.under in
    let seen_h = subst (λ v. HasTaken v told) (sym c.self.view_is) h in
    let with_p = subst (λ o. HasTaken (record { machine = inside.machine; state = seen inside.state; under = option_map underway o; events = inside.events; lines = inside.lines; counts = inside.counts; flaw = inside.flaw }) told) is seen_h in
    found-ended inside.machine (seen inside.state) inside.events inside.lines inside.counts inside.flaw p c.end.new.self c.look.new.pending pending told with_p c.in-Ok.ensures.items c.end.ensures.line c.look.ensures.same fits c.flaw_of-flaw.result
    (subst (λ is. c.look.new.pending.line + 1 + heights is < 2 ^ 64 → LiesBehind c.look.new.pending.line (c.look.new.pending.line + 1 + heights is) c.flaw_of-flaw.result) c.deref.ensures.value c.flaw_of-flaw.ensures.lies)

pub returns-in-Ok-Some-clause-why : goal.returns-in-Ok-Some-clause-why
returns-in-Ok-Some-clause-why c other told h fits =
    let is = sym c.take.ensures.value ∙ c.in-Some.is in
    let p = c.in-Some.pending in
    let q = c.end.new.self in
    let r = c.look.new.pending in
    let flaw = c.flaw_of-flaw.result in
    let stop = c.in-Ok-Some.stop in
    let inside = c.self.inside in
    let value : CheckerValue = record { machine = inside.machine; state = seen inside.state; under = option_map underway inside.pending; events = inside.events; lines = inside.lines; counts = inside.counts; flaw = inside.flaw } in
    let event : q.event ≡ p.event = c.end.ensures.event in
    let why = rw c.in-Ok-Some.field-0-is at c.in-Ok-Some.ensures.why in
    let seen_h = subst (λ v. HasTaken v told) (sym c.self.view_is) h in
    let with_p = subst (λ o. HasTaken (record { machine = inside.machine; state = seen inside.state; under = option_map underway o; events = inside.events; lines = inside.lines; counts = inside.counts; flaw = inside.flaw }) told) is seen_h in
    let there = told-ended inside.machine (seen inside.state) inside.events inside.lines inside.counts inside.flaw p q r told with_p c.in-Ok.ensures.items c.end.ensures.line c.look.ensures.same fits flaw stop
    (subst (λ is. r.line + 1 + heights is < 2 ^ 64 → flaw ≡ flaw_at r.line is stop) c.deref.ensures.value c.flaw_of-flaw.ensures.is) in
    subst (λ v. HasCause v flaw) c.self.view_is
    (caused value p (ap (option_map underway) is) q.items.items (inr ((λ k. Event (sym event k) ∷ q.items.items) ∙ c.in-Ok.ensures.items)) stop flaw there
    (subst (λ e. IsDueOrStops inside.machine (seen inside.state) e q.items.items stop) event why))
