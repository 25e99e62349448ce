use Rattle.std.proofs.Common.{◌≡◌, ◌+◌, ◌<◌, ◌^◌, [], ◌∷◌, length, ◌++◌, Some, None, Err, sym, ap, subst, ◌∙◌, arith}
use Rattle.tp_event_rules.specs.LiveStates.{seen}
use Rattle.tp_log_check.specs.CheckerState.{HasTaken, underway}
use Rattle.tp_log_check.specs.FlawLines.{LiesAt}
use Rattle.tp_log_check.proofs.FlawPlaces.{at-off, before-lines}
use Rattle.std.proofs.lemmas.List.{length-append}
use Rattle.tp_log_check.proofs.ReadSoFar.{same-taken}
use Rattle.std.specs.Prelude.{IsSome, option_map}
use Rattle.tp_log.specs.LogLines.{ReadsLogLine}
use Rattle.tp_log.proofs.BoundLines.{one_log_line}
use Rattle.tp_log_check.specs.Lawful.{IsLawfulLog}
use Rattle.tp_log_check.proofs.RefusedLogs.{lawful-line, some-not_none}
use Rattle.tp_log_check.proofs.checker.LogChecker.feed.Goals as goal

pub invariant_of-self : goal.invariant_of-self
invariant_of-self c =
    let w = c.self.invariant.1 in
    let g = c.with-counts.ensures.grows in (
      c.self-in-Ok.invariant.0,
      record {
        numbered = let a = w.numbered in let b = c.if-self.false in omega (arith, a, b);
        events = let a = w.events in let b = g.events in omega (arith, a, b);
        plans = let a = w.plans in let b = g.plans in omega (arith, a, b);
        nones = let a = w.nones in let b = g.nones in omega (arith, a, b);
        budgets = let a = w.budgets in let b = g.budgets in omega (arith, a, b);
      },
    )

pub returns-in-Ok-take-clause-read : goal.returns-in-Ok-take-clause-read
returns-in-Ok-take-clause-read c = (
  c.in-Ok.told,
  c.in-Ok.ensures.0,
  c.in-Ok.ensures.1,
  λ before h.
      let there = h.taken in
      let lines : c.self.inside.lines ≡ length before = ap (λ v. v.lines) c.self.view_is ∙ h.fed in
      let numbered : c.self.inside.lines + 1 ≡ length before + 1 = ap (λ n. n + 1) lines in
      let takes = c.in-Ok-take.ensures.taken before in
      let next : HasTaken c.take.new.self (before ++ c.in-Ok.told ∷ []) = search (takes, there, numbered) in
      let s = c.self-in-Ok.inside in
      let opened = subst (λ v. HasTaken v (before ++ c.in-Ok.told ∷ [])) (sym c.self-in-Ok.view_is) next in
      record {
        taken = same-taken s.machine (seen s.state) (option_map underway s.pending) s.events s.events s.lines (c.self.inside.lines + 1) s.counts c.with-counts.result s.flaw s.flaw (before ++ c.in-Ok.told ∷ []) opened;
        fed = (let all = length-append before (c.in-Ok.told ∷ []) in omega (arith, lines, all));
        counted = c.with-counts.ensures.counted before (ap (λ v. v.counts) c.self.view_is ∙ h.counted);
        flawless = ap (λ v. v.flaw) c.self-in-Ok.view_is ∙ c.in-Ok-take.ensures.flawless ∙ h.flawless;
        begun = λ none. absurd (some-not_none (option_map underway s.pending) (subst IsSome (sym (ap (λ v. v.under) c.self-in-Ok.view_is)) c.in-Ok-take.ensures.begun) none);
      },
)

pub returns-in-Ok-take-clause-events : goal.returns-in-Ok-take-clause-events
returns-in-Ok-take-clause-events c =
    let old = ap (λ v. v.events) c.self.view_is in
    let new = ap (λ v. v.events) c.self-in-Ok.view_is in
    (c.in-Ok.told, c.in-Ok.ensures.1, omega (arith, old, new, c.in-Ok-take.ensures.events))

pub returns-in-Some-clause-refused : goal.returns-in-Some-clause-refused
returns-in-Some-clause-refused c other before more told h same lawful =
    let is = sym (ap (λ v. v.flaw) c.self.view_is) in
    let some = c.in-Some.is in
    let none = h.flawless in
    let no : Some c.in-Some.flaw ≡ None = sym some ∙ sym is ∙ none in
    cc

pub returns-in-Err-Syntax-clause-refused : goal.returns-in-Err-Syntax-clause-refused
returns-in-Err-Syntax-clause-refused c other before more told h same lawful =
    (subst (λ f. ReadsLogLine c.args.line.now (Err f)) c.in-Err-Syntax.field-0-is c.in-Err-Syntax.ensures) told (lawful-line c.args.self.now.machine before told more lawful) same

pub returns-in-Err-clause-refused : goal.returns-in-Err-clause-refused
returns-in-Err-clause-refused c other before more told h same lawful =
    let line = lawful-line c.args.self.now.machine before told more lawful in
    let is = one_log_line told c.in-Ok.told line c.in-Ok.ensures.0 (sym same ∙ c.in-Ok.ensures.1) in
    c.in-Err.ensures.refused other before more h.taken h.begun (subst (λ t. IsLawfulLog c.args.self.now.machine (before ++ t ∷ more)) is lawful)

pub returns-in-Some-clause-lies : goal.returns-in-Some-clause-lies
returns-in-Some-clause-lies c other before h =
    let is = sym (ap (λ v. v.flaw) c.self.view_is) in
    let some = c.in-Some.is in
    let none = h.flawless in
    let no : Some c.in-Some.flaw ≡ None = sym some ∙ sym is ∙ none in
    cc

pub returns-in-Err-Syntax-clause-lies : goal.returns-in-Err-Syntax-clause-lies
returns-in-Err-Syntax-clause-lies c other before h =
    let inside = c.self.inside in
    let there = before-lines inside.machine (seen inside.state) inside.events inside.lines inside.counts inside.flaw inside.pending c.self.invariant.0.under c.args.self.now before c.self.view_is h in
    let fits = c.self.invariant.1.numbered in
    at-off before c.args.line.now (c.self.inside.lines + 1) c.end_off.result there.0 there.1 there.2
    (λ told is same order. (subst (λ f. ReadsLogLine c.args.line.now (Err f)) c.in-Err-Syntax.field-0-is c.in-Err-Syntax.ensures) told is same)
    (c.end_off.ensures.lies other before h.taken (subst (λ n. n < 2 ^ 64) there.0 fits))

pub returns-in-Err-clause-lies : goal.returns-in-Err-clause-lies
returns-in-Err-clause-lies c other before h =
    let inside = c.self.inside in
    let there = before-lines inside.machine (seen inside.state) inside.events inside.lines inside.counts inside.flaw inside.pending c.self.invariant.0.under c.args.self.now before c.self.view_is h in
    subst (λ text. LiesAt before text c.in-Err.flaw) (sym c.in-Ok.ensures.1) (c.in-Err.ensures.lies other before h.taken h.begun there.0 there.1 there.2)

pub returns-in-Some-clause-why : goal.returns-in-Some-clause-why
returns-in-Some-clause-why c other before h =
    let is = sym (ap (λ v. v.flaw) c.self.view_is) in
    let some = c.in-Some.is in
    let none = h.flawless in
    let no : Some c.in-Some.flaw ≡ None = sym some ∙ sym is ∙ none in
    cc

pub returns-in-Err-Syntax-clause-why : goal.returns-in-Err-Syntax-clause-why
returns-in-Err-Syntax-clause-why c other before h =
    let inside = c.self.inside in
    let there = before-lines inside.machine (seen inside.state) inside.events inside.lines inside.counts inside.flaw inside.pending c.self.invariant.0.under c.args.self.now before c.self.view_is h in
    c.end_off.ensures.why other before h.taken (subst (λ n. n < 2 ^ 64) there.0 c.self.invariant.1.numbered)

pub returns-in-Err-clause-why : goal.returns-in-Err-clause-why
returns-in-Err-clause-why c other before h =
    let inside = c.self.inside in
    let there = before-lines inside.machine (seen inside.state) inside.events inside.lines inside.counts inside.flaw inside.pending c.self.invariant.0.under c.args.self.now before c.self.view_is h in
    c.in-Err.ensures.why other before h.taken there.0
