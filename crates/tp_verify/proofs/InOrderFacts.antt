-- If the words name a machine's text and the log keeps its sizes, no cause of a refusal holds but a flaw of the log; if the log is lawful, none.
use Rattle.std.proofs.Common.{◌≡◌, ◌≢◌, ℕ, ◌<◌, ◌≤◌, List, length, Option, Some, None, refl, sym, subst, ◌∙◌, arith}
use Rattle.std.specs.Prelude.{IsSomeAnd}
use Rattle.tp_outside.specs.Outside.{Files, file_at}
use Rattle.tp_event_rules.specs.States.{empty_state}
use Rattle.tp_log_check.specs.Ends.{IsLawfulText}
use Rattle.tp_log_check.specs.Sizes.{KeepsSizes}
use Rattle.tp_log_laws.specs.AcceptedEntries.{BoundRunsAccepted}
use Rattle.tp_machine.specs.declared.machine.Machine.{Machine}
use Rattle.tp_machine_text.specs.Texts.{IsBrokenAt, IsMachineText, IsNotToml, IsSound}
use Rattle.tp_machine_text.specs.declared.machine_reader.MachineFault.TheVariants as fault
use Rattle.tp_machine_text.proofs.OneMachine.{one_of_text}
use Rattle.tp_machine_text.proofs.OneTable.{sound}
use Rattle.tp_run_laws.specs.ShortRuns.{BoundRunsAreShort}
use Rattle.tp_words.specs.Texts.{lines_of}
use Rattle.tp_verify.specs.Checks.{CheckedBy}
use Rattle.tp_verify.specs.InOrder.{IsCheckOf, NoCheckIsRefused, NoLawfulLogIsRefused, NoRunIsRejected, Refuses, RefusesButLog}
use Rattle.tp_verify.specs.Machines.{IsLongText, IsShelved, NoMachine, most_text}
use Rattle.tp_verify.specs.Words.{named_by}
use Rattle.tp_verify.specs.declared.verify_status.LongInput.TheVariants as size
use Rattle.tp_verify.specs.declared.verify_status.VerifyStatus.{VerifyStatus}
use Rattle.tp_verify.specs.declared.verify_status.VerifyStatus.TheVariants as status
use Rattle.tp_log_check.proofs.Rejections.{no-long-line, no-long-log, not-rejected, run-lawful}
use Rattle.tp_log_check.proofs.RunSizes.{runs-keep-sizes}

not-longer : (n : ℕ) → n ≤ most_text → most_text < n → ⊥
not-longer n fits long = omega (arith, fits, long)

module _ (words : List (List ℕ)) (files : Files) (name : List ℕ) (machine : Machine) (of : IsCheckOf words files name machine) where
  named-something : named_by words ≢ None
  named-something none = (let some : Some name ≡ None = sym of.named ∙ none in absurd cc)

  same-text : (P : List ℕ → Type 0) (shelved : IsShelved (Some files) name P) → shelved.text ≡ of.text
  same-text P shelved =
      let known : file_at files name ≡ Some shelved.text = shelved.is_known in
      let here : file_at files name ≡ Some of.text = of.is_known in
      cc

  has : (P : List ℕ → Type 0) → IsShelved (Some files) name P → P of.text
  has P shelved = subst P (same-text P shelved) shelved.has

  not-long : ¬ IsLongText (Some files) name
  not-long long = not-longer (length of.text) of.fits (subst (λ found. IsSomeAnd found (λ text. most_text < length text)) of.is_known long)

  is-sound : IsSound of.text
  is-sound = sound of.text of.is_text.0 of.is_text.1 of.is_text.2

  found-machine : (s : VerifyStatus) → Refuses s → ¬ NoMachine (Some files) name s
  found-machine (status.Machine fault.NotToml) is none = is-sound.0 (has IsNotToml none)
  found-machine (status.Machine (fault.Rule n)) is none = is-sound.1 n (has (IsBrokenAt n) none)
  found-machine (status.Machine fault.Memory) is none = none
  found-machine (status.TooLong size.MachineText) is none = not-long none
  found-machine status.Memory is none = absurd cc
  found-machine status.Shelf is none = absurd cc
  found-machine s is none = none

  same-machine : (other : Machine) → IsShelved (Some files) name (λ text. IsMachineText text other) → machine ≡ other
  same-machine other shelved = one_of_text of.text machine other of.is_text (has (λ text. IsMachineText text other) shelved)

  module _ (log : List ℕ) (sizes : KeepsSizes log) where
    looked : (s : VerifyStatus) → RefusesButLog s → (left taken taken' : Option (List ℕ)) → ¬ CheckedBy (λ t. t) (Some files) name (Some log) left taken taken' s
    looked (status.TooLong (size.Line n)) is left taken taken' checked = no-long-line checked.machine log left sizes n checked.did.0
    looked (status.TooLong size.Log) is left taken taken' checked = no-long-log checked.machine log left sizes checked.did.0
    looked (status.Rejected flaw) is left taken taken' checked = is.1 flaw refl
    looked status.Done is left taken taken' checked = (let no = is.0 in absurd cc)
    looked status.Memory is left taken taken' checked = (let no = is.0 in absurd cc)
    looked status.Source is left taken taken' checked = (let no = is.0 in absurd cc)
    looked status.Sink is left taken taken' checked = (let no = is.0 in absurd cc)
    looked s is left taken taken' checked = checked.did

    module _ (lawful : IsLawfulText machine log) where
      all-looked : (s : VerifyStatus) → Refuses s → (left taken taken' : Option (List ℕ)) → ¬ CheckedBy (λ t. t) (Some files) name (Some log) left taken taken' s
      all-looked (status.Rejected flaw) is left taken taken' checked =
          not-rejected checked.machine log left flaw (subst (λ m. IsLawfulText m log) (same-machine checked.machine checked.text) lawful) checked.did.0
      all-looked (status.TooLong what) is left taken taken' checked = looked (status.TooLong what) (is, λ flaw same. absurd cc) left taken taken' checked
      all-looked status.Done is left taken taken' checked = absurd cc
      all-looked status.Memory is left taken taken' checked = absurd cc
      all-looked status.Source is left taken taken' checked = absurd cc
      all-looked status.Sink is left taken taken' checked = absurd cc
      all-looked s is left taken taken' checked = checked.did

pub no-check-is-refused : NoCheckIsRefused
no-check-is-refused words files log name machine of sizes = record {
  no_usage = named-something words files name machine of;
  found = λ s is. found-machine words files name machine of s is.0;
  looked = looked words files name machine of log sizes;
}

pub no-lawful-log-is-refused : NoLawfulLogIsRefused
no-lawful-log-is-refused words files log name machine of sizes lawful = record {
  no_usage = named-something words files name machine of;
  found = found-machine words files name machine of;
  looked = all-looked words files name machine of log sizes lawful;
}

pub no-run-is-rejected : ((machine : Machine) → BoundRunsAccepted machine) → ((machine : Machine) (nodes : ℕ) → BoundRunsAreShort machine nodes) → NoRunIsRejected
no-run-is-rejected law short words files name budget script taken taken' machine run of bytes =
    let sizes = runs-keep-sizes machine budget (short machine budget) empty_state script run.text run.fit run.few run.run bytes in
    no-lawful-log-is-refused words files run.text name machine of sizes (run-lawful law machine budget (lines_of script) run.text run.run)
