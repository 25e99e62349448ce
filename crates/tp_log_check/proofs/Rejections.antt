-- A log that keeps its sizes is not too long, and a lawful one is refused neither at a line nor at its end.
use Rattle.std.proofs.Common.{◌≡◌, inl, inr, ℕ, true, List, [], ◌∷◌, ◌++◌, map, Option, Some, refl, sym, ap, subst, ◌∙◌, append_assoc}
use Rattle.std.proofs.lemmas.List.{append-nil}
use Rattle.tp_event_rules.specs.States.{empty_state}
use Rattle.tp_log.specs.GatheredItems.{log_lines}
use Rattle.tp_log.proofs.Items.{text_of-log}
use Rattle.tp_log_check.specs.Ends.{IsLawfulText, IsRefusedAt, IsRefusedAtEnd, StopsFrom}
use Rattle.tp_log_check.specs.Sizes.{KeepsSizes, line_bytes}
use Rattle.tp_log_check.specs.declared.flaw.Flaw.{Flaw}
use Rattle.tp_log_check.specs.declared.rejection.Rejection.TheVariants as cause
use Rattle.tp_log_laws.specs.AcceptedEntries.{BoundRunsAccepted}
use Rattle.tp_machine.specs.declared.machine.Machine.{Machine}
use Rattle.tp_run_laws.specs.Runs.{items_in}
use Rattle.tp_run_laws.specs.Wholes.{IsRunOver}
use Rattle.tp_stream.specs.Takes.{ends_whole}
use Rattle.tp_stream.proofs.Lines.{lines_after}
use Rattle.tp_stream.proofs.NextLines.{next-on}
use Rattle.tp_words.specs.Texts.{lines_of}
use Rattle.tp_log_check.proofs.LogSizes.{not-too-long}
use Rattle.tp_log_check.proofs.LineSizes.{not_too_long}

module _ (machine : Machine) (log : List ℕ) (left : Option (List ℕ)) where
  module _ (sizes : KeepsSizes log) where
    pub no-long-line : (n : ℕ) → ¬ StopsFrom machine (Some log) left (cause.Line n)
    no-long-line n (read, (after, whole, rest_left), to) = not_too_long 4194304 log read to.done to.rest after sizes.lines whole to.parts to.whole to.stops.0

    pub no-long-log : ¬ StopsFrom machine (Some log) left cause.Log
    no-long-log (read, (after, whole, rest_left), to) = not-too-long machine (Some log) left log read to.done to.rest after sizes whole to.parts to.whole to.stops

  module _ (flaw : Flaw) (lawful : IsLawfulText machine log) where
    nothing-left : (after : List ℕ) → left ≡ Some [] → left ≡ Some after → after ≡ []
    nothing-left after ended is = (let e : Some [] ≡ Some after = sym ended ∙ is in cc)

    at-line : (read done rest after : List ℕ) → log ≡ read ++ after → left ≡ Some after → read ≡ done ++ rest → ends_whole done ≡ true → ¬ IsRefusedAt machine (Some log) left done rest flaw
    at-line read done rest after whole is parts ends off =
        let lines : lines_of log ≡ lines_of done ++ lines_of (rest ++ after) = ap lines_of (whole ∙ ap (λ r. r ++ after) parts ∙ append_assoc done rest after) ∙ lines_after done (rest ++ after) ends in
        let next = ap (λ ls. lines_of done ++ ls) (next-on line_bytes left log rest off.next after is) ∙ sym (append_assoc (lines_of done) (off.next.line ∷ []) (lines_of (off.next.more ++ after))) in
        off.none log (lines_of (off.next.more ++ after)) (lines ∙ next) lawful

    at-end : (read done rest after : List ℕ) → log ≡ read ++ after → left ≡ Some after → read ≡ done ++ rest → ¬ IsRefusedAtEnd machine (Some log) left done rest flaw
    at-end read done rest after whole is parts off =
        let none : after ≡ [] = nothing-left after off.ended is in
        let log_is : log ≡ done = whole ∙ ap (λ a. read ++ a) none ∙ append-nil read ∙ parts ∙ ap (λ r. done ++ r) off.all ∙ append-nil done in
        off.none (subst (IsLawfulText machine) log_is lawful)

    pub not-rejected : ¬ StopsFrom machine (Some log) left (cause.Flaw flaw)
    not-rejected (read, (after, whole, is), to) = elim to.stops.1 [
      | inl off ↦ at-line read to.done to.rest after whole is to.parts to.whole off
      | inr off ↦ at-end read to.done to.rest after whole is to.parts off
    ]

-- the text of a run with bounds is that of a lawful log
pub run-lawful : ((machine : Machine) → BoundRunsAccepted machine) → (machine : Machine) (budget : ℕ) (lines : List (List ℕ)) (text : List ℕ) → IsRunOver machine budget true empty_state lines text → IsLawfulText machine text
run-lawful law machine budget lines text run =
    let lawful = law machine budget (map (λ e. e.event) run.log) run.log (record { answers = refl; last = run.last; run = run.run.run }) in
    record {
      told = log_lines (items_in run.log);
      lawful = record { log = run.log; is_log = run.run.has_text; lines = refl; lawful = lawful };
      is_text = run.is_text ∙ sym (text_of-log (items_in run.log));
    }
