-- Where everything but the log itself is in order, no other cause of a refusal holds.
use Rattle.std.proofs.Common.{◌≡◌, ◌≢◌, inl, inr, ℕ, true, List, [], ◌∷◌, ◌++◌, map, Option, Some, refl, sym, ap, subst, ◌∙◌, append_assoc}
use Rattle.std.specs.Prelude.{IsTrue}
use Rattle.std.proofs.lemmas.List.{append-nil}
use Rattle.tp_outside.specs.Outside.{Files}
use Rattle.tp_command.specs.Form.{Asked}
use Rattle.tp_log_check.specs.Ends.{IsLawfulText, IsRefusedAt, IsRefusedAtEnd, StopsFrom}
use Rattle.tp_log_check.specs.Sizes.{line_bytes}
use Rattle.tp_log_check.specs.declared.rejection.Rejection.TheVariants as cause
use Rattle.tp_log.specs.GatheredItems.{log_lines}
use Rattle.tp_log.proofs.Items.{text_of-log}
use Rattle.tp_log_check.specs.declared.flaw.Flaw.{Flaw}
use Rattle.tp_log_laws.specs.AcceptedEntries.{BoundRunsAccepted}
use Rattle.tp_machine.specs.declared.machine.Machine.{Machine}
use Rattle.tp_machine_text.specs.Texts.{IsMachineText}
use Rattle.tp_machine_text.proofs.OneMachine.{one_of_text}
use Rattle.tp_run_laws.specs.Runs.{items_in}
use Rattle.tp_run_laws.specs.ShortRuns.{BoundRunsAreShort}
use Rattle.tp_run_laws.specs.Wholes.{IsRunOver}
use Rattle.tp_stream.specs.Takes.{ends_whole}
use Rattle.tp_stream.proofs.Lines.{lines_after}
use Rattle.tp_stream.proofs.NextLines.{next-on}
use Rattle.tp_event_rules.specs.States.{empty_state}
use Rattle.tp_words.specs.Texts.{lines_of}
use Rattle.tp_program.specs.Checks.{CheckedBy}
use Rattle.tp_program.specs.ChecksInOrder.{IsCheckInOrder, NoCheckIsRefused, NoLawfulLogIsRefused, NoRunIsRejected}
use Rattle.tp_program.specs.InOrder.{is_refusal}
use Rattle.tp_program.specs.Texts.{IsShelved}
use Rattle.tp_program.specs.declared.status.Long.TheVariants as size
use Rattle.tp_program.specs.declared.status.Status.{Status}
use Rattle.tp_program.specs.declared.status.Status.TheVariants as status
use Rattle.tp_program.proofs.InOrderFacts.{found_machine, has, named_something}
use Rattle.tp_program.proofs.LogSizes.{not-too-long}
use Rattle.tp_program.proofs.RunSizes.{runs-keep-sizes}
use Rattle.tp_program.proofs.Sizes.{not_too_long}

module _ (words : List (List ℕ)) (files : Files) (log : List ℕ) (asked : Asked) (good : IsCheckInOrder words files log asked) where
  looked : (s : Status) → IsTrue (is_refusal s) → ((flaw : Flaw) → s ≢ status.Rejected flaw) → (left taken taken' : Option (List ℕ)) → ¬ CheckedBy (λ t. t) (Some files) asked (Some log) left taken taken' s
  looked (status.TooLong (size.Line n)) is sound left taken taken' checked =
      let ((read, (after, whole, rest_left), to), same) = checked.did in
      not_too_long 4194304 log read to.done to.rest after good.sizes.lines whole to.parts to.whole to.stops.0
  looked (status.TooLong size.Log) is sound left taken taken' checked =
      let ((read, (after, whole, rest_left), to), same) = checked.did in
      not-too-long checked.machine (Some log) left log read to.done to.rest after good.sizes whole to.parts to.whole to.stops
  looked (status.Rejected flaw) is sound left taken taken' checked = sound flaw refl
  looked status.Done is sound left taken taken' checked = absurd cc
  looked status.Memory is sound left taken taken' checked = absurd cc
  looked status.Source is sound left taken taken' checked = absurd cc
  looked status.Sink is sound left taken taken' checked = absurd cc
  looked s is sound left taken taken' checked = checked.did

pub no_check_is_refused : NoCheckIsRefused
no_check_is_refused words files log asked good = record {
  no_usage = named_something words asked good.named;
  found = found_machine files asked.arg good.text good.there good.machine good.is_text;
  looked = looked words files log asked good;
}

-- a lawful log is refused neither at a line nor at its end
module _ (machine : Machine) (log : List ℕ) (left : Option (List ℕ)) (flaw : Flaw) (lawful : IsLawfulText machine log) where
  nothing-left : (after : List ℕ) → left ≡ Some [] → left ≡ Some after → after ≡ []
  nothing-left after ended is = (let e : Some [] ≡ Some after = sym ended ∙ is in cc)

  at-line : (read done rest after : List ℕ) → log ≡ read ++ after → left ≡ Some after → read ≡ done ++ rest → ends_whole done ≡ true → ¬ IsRefusedAt machine (Some log) left done rest flaw
  at-line read done rest after whole is parts ends off =
      let lines : lines_of log ≡ lines_of done ++ lines_of (rest ++ after) = ap lines_of (whole ∙ ap (λ r. r ++ after) parts ∙ append_assoc done rest after) ∙ lines_after done (rest ++ after) ends in
      let next = ap (λ ls. lines_of done ++ ls) (next-on line_bytes left log rest off.next after is) ∙ sym (append_assoc (lines_of done) (off.next.line ∷ []) (lines_of (off.next.more ++ after))) in
      off.none log (lines_of (off.next.more ++ after)) (lines ∙ next) lawful

  at-end : (read done rest after : List ℕ) → log ≡ read ++ after → left ≡ Some after → read ≡ done ++ rest → ¬ IsRefusedAtEnd machine (Some log) left done rest flaw
  at-end read done rest after whole is parts off =
      let none : after ≡ [] = nothing-left after off.ended is in
      let log_is : log ≡ done = whole ∙ ap (λ a. read ++ a) none ∙ append-nil read ∙ parts ∙ ap (λ r. done ++ r) off.all ∙ append-nil done in
      off.none (subst (IsLawfulText machine) log_is lawful)

  not-rejected : ¬ StopsFrom machine (Some log) left (cause.Flaw flaw)
  not-rejected (read, (after, whole, is), to) = elim to.stops.1 [
    | inl off ↦ at-line read to.done to.rest after whole is to.parts to.whole off
    | inr off ↦ at-end read to.done to.rest after whole is to.parts off
  ]

module _ (words : List (List ℕ)) (files : Files) (log : List ℕ) (asked : Asked) (good : IsCheckInOrder words files log asked) (lawful : IsLawfulText good.machine log) where
  same-machine : (machine : Machine) → IsShelved (Some files) asked.arg (λ text. IsMachineText text machine) → good.machine ≡ machine
  same-machine machine named = one_of_text good.text good.machine machine good.is_text (has files asked.arg good.text good.there (λ text. IsMachineText text machine) named)

  rejected : (flaw : Flaw) (left taken taken' : Option (List ℕ)) → ¬ CheckedBy (λ t. t) (Some files) asked (Some log) left taken taken' (status.Rejected flaw)
  rejected flaw left taken taken' checked =
      not-rejected checked.machine log left flaw (subst (λ m. IsLawfulText m log) (same-machine checked.machine checked.text) lawful) checked.did.0

  all-looked : (s : Status) → IsTrue (is_refusal s) → (left taken taken' : Option (List ℕ)) → ¬ CheckedBy (λ t. t) (Some files) asked (Some log) left taken taken' s
  all-looked (status.Rejected flaw) is left taken taken' checked = rejected flaw left taken taken' checked
  all-looked status.Done is left taken taken' checked = absurd cc
  all-looked status.Memory is left taken taken' checked = absurd cc
  all-looked status.Source is left taken taken' checked = absurd cc
  all-looked status.Sink is left taken taken' checked = absurd cc
  all-looked (status.TooLong what) is left taken taken' checked = looked words files log asked good (status.TooLong what) is (λ flaw same. absurd cc) left taken taken' checked
  all-looked s is left taken taken' checked = checked.did

pub no_lawful_log_is_refused : NoLawfulLogIsRefused
no_lawful_log_is_refused words files log asked good lawful = record {
  no_usage = named_something words asked good.named;
  found = found_machine files asked.arg good.text good.there good.machine good.is_text;
  looked = all-looked words files log asked good lawful;
}

-- the text of a run with bounds is that of a lawful log
run-lawful : ((machine : Machine) → BoundRunsAccepted machine) → (machine : Machine) (budget : ℕ) (lines : List (List ℕ)) (text : List ℕ) → IsRunOver machine budget true empty_state lines text → IsLawfulText machine text
run-lawful law machine budget lines text run =
    let lawful = law machine budget (map (λ e. e.event) run.log) run.log (record { answers = refl; last = run.last; run = run.run.run }) in
    record {
      told = log_lines (items_in run.log);
      lawful = record { log = run.log; is_log = run.run.has_text; lines = refl; lawful = lawful };
      is_text = run.is_text ∙ sym (text_of-log (items_in run.log));
    }

pub no_run_is_rejected : ((machine : Machine) → BoundRunsAccepted machine) → ((machine : Machine) (nodes : ℕ) → BoundRunsAreShort machine nodes) → NoRunIsRejected
no_run_is_rejected law short words files asked budget script taken taken' machine run is bytes =
    let sizes = runs-keep-sizes machine budget (short machine budget) empty_state script run.text run.fit run.few run.run bytes in
    let good : IsCheckInOrder words files run.text asked =
    record { named = is.named; mode = is.mode; text = is.text; there = is.there; machine = machine; is_text = is.is_text; sizes = sizes } in
    no_lawful_log_is_refused words files run.text asked good (run-lawful law machine budget (lines_of script) run.text run.run)
