use Rattle.std.proofs.Common.{◌≡◌, ◌≢◌, arith, ℕ, ◌+◌, ◌<◌, ◌^◌, None, [], ◌∷◌, ◌++◌, List, length, refl, sym, ap, ◌∙◌, subst}
use Rattle.std.specs.List.{All}
use Rattle.tp_log.specs.LogLines.{AreInOrder, IsLogLine, log_line_text}
use Rattle.tp_log.specs.declared.log_line.LogLine.{LogLine}
use Rattle.tp_log.specs.declared.log_line.LogLine.TheVariants.{Event as EventLine}
use Rattle.tp_log_check.specs.CheckerState.{HasTaken, events_in}
use Rattle.tp_script.specs.declared.event.Event.{Event as AnEvent}
use Rattle.tp_log_check.specs.Lawful.{IsLawfulLog}
use Rattle.tp_log_check.specs.declared.flaw.Flaw.{Flaw}
use Rattle.tp_log_check.specs.declared.flaw.Flaw.TheVariants.{Memory as WantsMemory}
use Rattle.tp_log_check.specs.Causes.{HasCause}
use Rattle.tp_log_check.specs.FlawLines.{LiesAt, LiesInLast}
use Rattle.tp_log_check.proofs.FlawPlaces.{at-last, at-off, off-told}
use Rattle.tp_log_check.proofs.RefusedLogs.{if-err, lawful-order}
use Rattle.tp_log_check.proofs.checker.LogChecker.take.Goals as goal

pub returns-in-Event-clause-refused : goal.returns-in-Event-clause-refused
returns-in-Event-clause-refused c =
    if-err (λ (flaw : Flaw). flaw ≢ WantsMemory → (told more : List LogLine) → HasTaken c.args.self.now told → IsLawfulLog c.args.self.now.machine (told ++ EventLine c.in-Event.event ∷ more) → ⊥)
    (λ (flaw : Flaw). flaw ≢ WantsMemory → (before more : List LogLine) → HasTaken c.args.self.now before → (c.args.self.now.under ≡ None → before ≡ []) → IsLawfulLog c.args.self.now.machine (before ++ c.args.told ∷ more) → ⊥)
    c.begin.result c.begin.ensures.refused
    (λ flaw refused other before more h none lawful. refused other before more h (subst (λ t. IsLawfulLog c.args.self.now.machine (before ++ t ∷ more)) c.in-Event.is lawful))

pub returns-in-Ok-false-clause-refused : goal.returns-in-Ok-false-clause-refused
returns-in-Ok-false-clause-refused c other before more h none lawful =
    let refused = rw c.in-Ok-false.field-0-test at c.in-Ok-false.ensures.refused in
    refused before h none (lawful-order c.args.self.now.machine before c.args.told more lawful)

pub returns-in-Event-clause-lies : goal.returns-in-Event-clause-lies
returns-in-Event-clause-lies c =
    if-err (λ (flaw : Flaw). flaw ≢ WantsMemory → (told : List LogLine) → HasTaken c.args.self.now told → c.args.line ≡ length told + 1 → LiesInLast told flaw)
    (λ (flaw : Flaw). flaw ≢ WantsMemory → (before : List LogLine) → HasTaken c.args.self.now before → (c.args.self.now.under ≡ None → before ≡ []) → c.args.line ≡ length before + 1 → All IsLogLine before → AreInOrder before → LiesAt before (log_line_text c.args.told) flaw)
    c.begin.result c.begin.ensures.lies
    (λ flaw lies other before h none numbered known order. at-last before (log_line_text c.args.told) flaw (lies other before h numbered))

pub returns-in-Ok-false-clause-lies : goal.returns-in-Ok-false-clause-lies
returns-in-Ok-false-clause-lies c other before h none numbered known order =
    let refused = rw c.in-Ok-false.field-0-test at c.in-Ok-false.ensures.refused in
    let same : c.add.new.self ≡ c.args.self.now = rw c.in-Ok-false.field-0-test at c.in-Ok-false.ensures.taken in
    at-off before (log_line_text c.args.told) c.args.line c.end_off.result numbered known order (off-told before c.args.told c.requires.line (refused before h none))
    (c.end_off.ensures.lies other before (subst (λ v. HasTaken v before) (sym same) h) (subst (λ n. n < 2 ^ 64) numbered c.ranges.line.fits))

pub returns-in-Ok-false-clause-why : goal.returns-in-Ok-false-clause-why
returns-in-Ok-false-clause-why c other before h numbered =
    let same : c.add.new.self ≡ c.args.self.now = rw c.in-Ok-false.field-0-test at c.in-Ok-false.ensures.taken in
    subst (λ v. HasCause v c.end_off.result) same (c.end_off.ensures.why other before (subst (λ v. HasTaken v before) (sym same) h) (subst (λ n. n < 2 ^ 64) numbered c.ranges.line.fits))

plus-zero : (n : ℕ) → n + 0 ≡ n
plus-zero n = omega arith

no-event : (told : LogLine) → ((x : AnEvent) → told ≡ EventLine x → ⊥) → events_in told ≡ 0
no-event (EventLine event) none = absurd (none event refl)
no-event _ none = refl

pub returns-in-Ok-true : goal.returns-in-Ok-true
returns-in-Ok-true c = record {
  taken = λ before h numbered. (let taken = rw c.in-Ok-true.field-0-test at c.in-Ok-true.ensures.taken in taken before h);
  refused = tt;
  lies = tt;
  why = tt;
  begun = rw c.in-Ok-true.field-0-test at c.in-Ok-true.ensures.begun;
  machine = c.in-Ok-true.ensures.machine;
  events = c.in-Ok-true.ensures.events ∙ sym (ap (λ n. c.args.self.now.events + n) (no-event c.args.told c.in_default.not-Event) ∙ plus-zero c.args.self.now.events);
  lines = c.in-Ok-true.ensures.lines;
  counts = c.in-Ok-true.ensures.counts;
  flawless = c.in-Ok-true.ensures.flawless;
  memory = tt;
  kept = tt;
}
