-- What is in order is answered, unless the outside failed.
use Rattle.std.proofs.Common.{◌≡◌, ◌≢◌, ℕ, List, Option, Some, None, inl, inr, refl, sym, ap, subst, ◌∙◌}
use Rattle.std.specs.Prelude.{IsTrue}
use Rattle.tp_outside.specs.Outside.{Files}
use Rattle.tp_command.specs.Form.{Asked, form}
use Rattle.tp_command.specs.declared.request.Mode.{Mode}
use Rattle.tp_command.specs.declared.request.Mode.TheVariants.{Run, Save, Resume, Check, Soak, Compose, Farm}
use Rattle.tp_log_check.specs.declared.flaw.Flaw.{Flaw}
use Rattle.tp_machine.specs.declared.machine.Machine.{Machine}
use Rattle.tp_snapshot.specs.Laws.{OneVerdict}
use Rattle.tp_program.specs.Checks.{Accepts, CheckEnds, CheckedBy, ChecksOn}
use Rattle.tp_program.specs.ChecksInOrder.{IsCheckInOrder}
use Rattle.tp_program.specs.Complete.{AnswersInOrder, IsInOrderAs, is_answer, is_answer_of, is_verdict}
use Rattle.tp_program.specs.ComposeEnds.{ComposeEnds}
use Rattle.tp_program.specs.FarmEnds.{FarmEnds, FarmedBy}
use Rattle.tp_program.specs.FarmsInOrder.{IsFarmInOrder}
use Rattle.tp_program.specs.InOrder.{IsRackInOrder, IsRunInOrder, is_refusal}
use Rattle.tp_program.specs.Modes.{Ends, EndsAs}
use Rattle.tp_program.specs.ResumeEnds.{ResumeEnds, ResumesOn}
use Rattle.tp_program.specs.ResumesInOrder.{IsResumeInOrder}
use Rattle.tp_program.specs.Runs.{RanBy, RunEnds}
use Rattle.tp_program.specs.SaveEnds.{SaveEnds, SavedBy}
use Rattle.tp_program.specs.SoakEnds.{SoakEnds}
use Rattle.tp_program.specs.WrittenText.{WritesOne}
use Rattle.tp_program.specs.declared.status.Long.TheVariants as size
use Rattle.tp_program.specs.declared.status.Status.{Status}
use Rattle.tp_program.specs.declared.status.Status.TheVariants as status
use Rattle.tp_program.proofs.ChecksInOrderFacts.{no_check_is_refused}
use Rattle.tp_program.proofs.FarmsInOrderFacts.{no_farm_is_refused}
use Rattle.tp_program.proofs.InOrderFacts.{no_rack_is_refused, no_run_is_refused}
use Rattle.tp_program.proofs.ResumesInOrderFacts.{no_resume_is_refused}

-- a status that refuses nothing and is no fault of the outside is an answer
answers : (s : Status) → s ≢ status.Shelf → s ≢ status.Source → s ≢ status.Sink → ¬ IsTrue (is_refusal s) → IsTrue (is_answer s)
answers status.Done shelf source sink not = refl
answers status.Memory shelf source sink not = refl
answers status.Shelf shelf source sink not = absurd (shelf refl)
answers status.Source shelf source sink not = absurd (source refl)
answers status.Sink shelf source sink not = absurd (sink refl)
answers status.Usage shelf source sink not = absurd (not refl)
answers (status.Machine fault) shelf source sink not = absurd (not refl)
answers (status.TooLong what) shelf source sink not = absurd (not refl)
answers (status.Rejected flaw) shelf source sink not = absurd (not refl)
answers (status.Snapshot fault) shelf source sink not = absurd (not refl)
answers (status.Rack fault) shelf source sink not = absurd (not refl)
answers (status.Farm fault) shelf source sink not = absurd (not refl)

-- so is one that refuses nothing but a log
verdicts : (s : Status) → s ≢ status.Shelf → s ≢ status.Source → s ≢ status.Sink
    → (IsTrue (is_refusal s) → ((flaw : Flaw) → s ≢ status.Rejected flaw) → ⊥) → IsTrue (is_verdict s)
verdicts status.Done shelf source sink not = refl
verdicts status.Memory shelf source sink not = refl
verdicts (status.Rejected flaw) shelf source sink not = refl
verdicts status.Shelf shelf source sink not = absurd (shelf refl)
verdicts status.Source shelf source sink not = absurd (source refl)
verdicts status.Sink shelf source sink not = absurd (sink refl)
verdicts status.Usage shelf source sink not = absurd (not refl (λ flaw e. cc))
verdicts (status.Machine fault) shelf source sink not = absurd (not refl (λ flaw e. cc))
verdicts (status.TooLong what) shelf source sink not = absurd (not refl (λ flaw e. cc))
verdicts (status.Snapshot fault) shelf source sink not = absurd (not refl (λ flaw e. cc))
verdicts (status.Rack fault) shelf source sink not = absurd (not refl (λ flaw e. cc))
verdicts (status.Farm fault) shelf source sink not = absurd (not refl (λ flaw e. cc))

-- what is written in one piece is no refusal
writes_not : (P : List ℕ → Type 0) (t t' : Option (List ℕ)) (s : Status) → IsTrue (is_refusal s) → ¬ WritesOne P t t' s
writes_not P t t' status.Done is h = absurd cc
writes_not P t t' status.Sink is h = absurd cc
writes_not P t t' s is h = h

-- what the sink had taken says as much of a check as the sink
module _ {K : Type 0} (taken : K → Option (List ℕ)) (machine : Machine) (left left' : Option (List ℕ)) (sink sink' : K) where
  checks-taken : (s : Status) → ChecksOn taken machine left left' sink sink' s → ChecksOn (λ t. t) machine left left' (taken sink) (taken sink') s
  checks-taken status.Done h = record { counts = h.counts; log = h.log; all = h.all; written = h.written }
  checks-taken status.Sink h = record { counts = h.counts; log = h.log; all = h.all; written = h.written }
  checks-taken status.Memory h = ap taken h
  checks-taken status.Source h = (h.0, ap taken h.1)
  checks-taken (status.TooLong (size.Line n)) h = (h.0, ap taken h.1)
  checks-taken (status.TooLong size.Log) h = (h.0, ap taken h.1)
  checks-taken (status.Rejected flaw) h = (h.0, ap taken h.1)
  checks-taken s h = absurd h

module _ {S K : Type 0} (left : S → Option (List ℕ)) (taken : K → Option (List ℕ)) (words : List (List ℕ)) (files : Files) (input : List ℕ) (asked : Asked) (source source' : S) (sink sink' : K)
    (is_left : left source ≡ Some input) (one : OneVerdict) (s : Status) where
  run-not : IsRunInOrder words files input asked → RunEnds left taken (Some files) source source' sink sink' asked s → ¬ IsTrue (is_refusal s)
  run-not good ends is = (let law = no_run_is_refused words files input asked good in elim ends [
    | inl none ↦ law.found s is none.0
    | inr ran ↦ law.answered s is (left source') (taken sink) (taken sink') (subst (λ l. RanBy (Some files) asked l (left source') (taken sink) (taken sink') s) is_left ran)
  ])

  save-not : IsRunInOrder words files input asked → SaveEnds left taken (Some files) source source' sink sink' asked s → ¬ IsTrue (is_refusal s)
  save-not good ends is = (let law = no_run_is_refused words files input asked good in elim ends [
    | inl none ↦ law.found s is none.0
    | inr ran ↦ law.saved s is (left source') (taken sink) (taken sink') (subst (λ l. SavedBy (Some files) asked l (left source') (taken sink) (taken sink') s) is_left ran)
  ])

  resume-not : IsResumeInOrder words files input asked → ResumeEnds left taken (Some files) source source' sink sink' asked s → ¬ IsTrue (is_refusal s)
  resume-not good ends is = (let law = no_resume_is_refused one words files input asked good in elim ends [
    | inl none ↦ law.found s is none.0
    | inr ran ↦ law.answered s is (left source') (taken sink) (taken sink') (subst (λ l. ResumesOn (Some files) asked l (left source') (taken sink) (taken sink') s) is_left ran)
  ])

  compose-not : IsRackInOrder words files asked → ComposeEnds taken (Some files) source source' sink sink' asked s → ¬ IsTrue (is_refusal s)
  compose-not good ends is = (let law = no_rack_is_refused words files asked good in elim ends.1 [
    | inl none ↦ law.found s is none.0
    | inr written ↦ law.written s is (taken sink) (taken sink') written
  ])

  farm-not : IsFarmInOrder words files input asked → FarmEnds left taken (Some files) source source' sink sink' asked s → ¬ IsTrue (is_refusal s)
  farm-not good ends is = (let law = no_farm_is_refused words files input asked good in elim ends [
    | inl none ↦ law.found s is none.0
    | inr ran ↦ law.answered s is (left source') (taken sink) (taken sink') (subst (λ l. FarmedBy (Some files) asked l (left source') (taken sink) (taken sink') s) is_left ran)
  ])

  soak-not : SoakEnds taken source source' sink sink' asked s → ¬ IsTrue (is_refusal s)
  soak-not ends is = elim ends.1 [
    | inl memory ↦ (let no : IsTrue (is_refusal status.Memory) = subst (λ x. IsTrue (is_refusal x)) memory.0 is in absurd cc)
    | inr written ↦ writes_not _ (taken sink) (taken sink') s is written.2
  ]

  check-not : IsCheckInOrder words files input asked → CheckEnds left taken (Some files) source source' sink sink' asked s
      → IsTrue (is_refusal s) → ((flaw : Flaw) → s ≢ status.Rejected flaw) → ⊥
  check-not good ends is sound = (let law = no_check_is_refused words files input asked good in elim ends [
    | inl none ↦ law.found s is none.0
    | inr checked ↦
        (let seen : CheckedBy (λ t. t) (Some files) asked (left source) (left source') (taken sink) (taken sink') s =
        record { machine = checked.machine; text = checked.text; did = checks-taken taken checked.machine (left source) (left source') sink sink' s checked.did } in
        law.looked s is sound (left source') (taken sink) (taken sink') (subst (λ l. CheckedBy (λ t. t) (Some files) asked l (left source') (taken sink) (taken sink') s) is_left seen))
  ])

  module _ (shelf : s ≢ status.Shelf) (source-well : s ≢ status.Source) (sink-well : s ≢ status.Sink) where
    answered-as : (mode : Mode) → IsInOrderAs mode words files input asked → EndsAs left taken (Some files) source source' sink sink' mode asked s → IsTrue (is_answer_of mode s)
    answered-as Run good ends = answers s shelf source-well sink-well (run-not good ends)
    answered-as Save good ends = answers s shelf source-well sink-well (save-not good ends)
    answered-as Resume good ends = answers s shelf source-well sink-well (resume-not good ends)
    answered-as Compose good ends = answers s shelf source-well sink-well (compose-not good ends)
    answered-as Farm good ends = answers s shelf source-well sink-well (farm-not good ends)
    answered-as Soak good ends = answers s shelf source-well sink-well (soak-not ends)
    answered-as Check good ends = verdicts s shelf source-well sink-well (check-not good ends)

-- a request in order is of the form
in-order-named : (mode : Mode) (words : List (List ℕ)) (files : Files) (input : List ℕ) (asked : Asked) → IsInOrderAs mode words files input asked → form words ≡ Some asked
in-order-named Run words files input asked good = good.named
in-order-named Save words files input asked good = good.named
in-order-named Resume words files input asked good = good.named
in-order-named Check words files input asked good = good.named
in-order-named Compose words files input asked good = good.named
in-order-named Farm words files input asked good = good.named
in-order-named Soak words files input asked good = good

-- want of memory is an answer of each mode
memory-answers : (mode : Mode) → IsTrue (is_answer_of mode status.Memory)
memory-answers Run = refl
memory-answers Save = refl
memory-answers Resume = refl
memory-answers Check = refl
memory-answers Compose = refl
memory-answers Farm = refl
memory-answers Soak = refl

pub complete-memory : (words : List (List ℕ)) (known : Option Files) (left : Option (List ℕ)) → AnswersInOrder words known left status.Memory
complete-memory words known left = λ files input asked is is_left good. memory-answers asked.mode

pub complete-unformed : (words : List (List ℕ)) (known : Option Files) (left : Option (List ℕ)) (s : Status) → form words ≡ None → AnswersInOrder words known left s
complete-unformed words known left s none = λ files input asked is is_left good.
    let both : Some asked ≡ None = sym (in-order-named asked.mode words files input asked good) ∙ none in absurd cc

module _ {S K : Type 0} (left : S → Option (List ℕ)) (taken : K → Option (List ℕ)) (words : List (List ℕ)) (read : Asked) (named : form words ≡ Some read) (known : Option Files)
    (source source' : S) (sink sink' : K) (s : Status) (one : OneVerdict) where
  pub complete : Ends left taken known source source' sink sink' read s → s ≢ status.Shelf → s ≢ status.Source → s ≢ status.Sink → AnswersInOrder words known (left source) s
  complete ends shelf source-well sink-well = λ files input asked is is_left good.
      let both : Some read ≡ Some asked = sym named ∙ in-order-named asked.mode words files input asked good in
      let same : read ≡ asked = cc in
      let ends-so : Ends left taken (Some files) source source' sink sink' asked s =
      subst (λ k. Ends left taken k source source' sink sink' asked s) is (subst (λ a. Ends left taken known source source' sink sink' a s) same ends) in
      answered-as left taken words files input asked source source' sink sink' is_left one s shelf source-well sink-well asked.mode good ends-so
