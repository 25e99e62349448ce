use Rattle.std.proofs.Common.{inl, refl, ap, sym, subst, ◌∙◌}
use Rattle.std.specs.Prelude.{IfSome, option_map}
use Rattle.tp_log_check.specs.Gathered.{IsPending}
use Rattle.tp_event_rules.specs.LiveStates.{seen}
use Rattle.tp_log_check.specs.Causes.{HasCause, IsDueOrStops, IsRightUnder, flaw_at}
use Rattle.tp_log_check.proofs.FlawCauses.{caused, right-so-far}
use Rattle.tp_log_check.specs.CheckerState.{CheckerValue, HasTaken, underway}
use Rattle.tp_log_check.proofs.FlawPlaces.{fits-so-far, found-so-far, off-last}
use Rattle.tp_log_check.proofs.Sections.{keeps-stock}
use Rattle.tp_log_check.proofs.checker.LogChecker.end_off.Goals as goal

pub look_off-requires-clause-stocked : goal.look_off-requires-clause-stocked
look_off-requires-clause-stocked c = keeps-stock c.self.inside.machine (seen c.self.inside.state) c.self.inside.pending c.self.inside.events c.self.invariant.0

pub returns-in-Some-flaw_before-clause-lies : goal.returns-in-Some-flaw_before-clause-lies
returns-in-Some-flaw_before-clause-lies c other told h fits =
    let is = sym c.take.ensures.value ∙ c.in-Some.is in
    let p = c.in-Some.pending in
    let inside = c.self.inside in
    let pending : IsPending p = subst (λ o. IfSome o IsPending) is c.self.invariant.0.under in
    let seen_h = subst (λ v. HasTaken v told) (sym c.self.view_is) h in
    let with_p = subst (λ o. HasTaken (record { machine = inside.machine; state = seen inside.state; under = option_map underway o; events = inside.events; lines = inside.lines; counts = inside.counts; flaw = inside.flaw }) told) is seen_h in
    off-last told c.args.line c.in-Some-flaw_before.flaw (found-so-far inside.machine (seen inside.state) inside.events inside.lines inside.counts inside.flaw p c.look_off.new.pending pending told with_p c.look_off.ensures.same fits c.in-Some-flaw_before.flaw c.in-Some-flaw_before.ensures.lies)

pub returns-in-Some-flaw_before-clause-why : goal.returns-in-Some-flaw_before-clause-why
returns-in-Some-flaw_before-clause-why c other told h fits =
    let is = sym c.take.ensures.value ∙ c.in-Some.is in
    let p = c.in-Some.pending in
    let r = c.look_off.new.pending in
    let flaw = c.in-Some-flaw_before.flaw in
    let inside = c.self.inside in
    let value : CheckerValue = record { machine = inside.machine; state = seen inside.state; under = option_map underway inside.pending; events = inside.events; lines = inside.lines; counts = inside.counts; flaw = inside.flaw } in
    let seen_h = subst (λ v. HasTaken v told) (sym c.self.view_is) h in
    let with_p = subst (λ o. HasTaken (record { machine = inside.machine; state = seen inside.state; under = option_map underway o; events = inside.events; lines = inside.lines; counts = inside.counts; flaw = inside.flaw }) told) is seen_h in
    let same = c.look_off.ensures.same in
    let few = fits-so-far inside.machine (seen inside.state) inside.events inside.lines inside.counts inside.flaw p r told with_p same fits in
    let (stop, found, there) = c.in-Some-flaw_before.ensures.is few in
    let why = subst (λ o. IfSome o (IsDueOrStops inside.machine (seen inside.state) p.event p.items.items)) found c.in-Ok.ensures.why in
    subst (λ v. HasCause v flaw) c.self.view_is
    (caused value p (ap (option_map underway) is) p.items.items (inl refl) stop flaw (there ∙ (λ k. flaw_at (same.line k) (same.items k) stop)) why)

pub returns-in-Ok-clause-why : goal.returns-in-Ok-clause-why
returns-in-Ok-clause-why c other told h fits =
    let is = sym c.take.ensures.value ∙ c.in-Some.is in
    let inside = c.self.inside in
    let value : CheckerValue = record { machine = inside.machine; state = seen inside.state; under = option_map underway inside.pending; events = inside.events; lines = inside.lines; counts = inside.counts; flaw = inside.flaw } in
    subst (λ v. IsRightUnder v.machine v.state v.under) c.self.view_is
    (right-so-far value c.in-Some.pending (ap (option_map underway) is) c.in-Ok.found c.look_off.new.pending.items.items c.look_off.ensures.same.items c.in-Ok.ensures.why c.in-Ok.ensures.right (c.in-None.ensures.behind refl))
