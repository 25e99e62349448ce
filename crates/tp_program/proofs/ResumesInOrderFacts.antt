-- Where a snapshot and a script are in order, no cause of a refusal holds.
use Rattle.std.proofs.Common.{◌≡◌, ℕ, ◌<◌, ◌≤◌, List, length, Option, Some, subst, arith}
use Rattle.std.specs.Prelude.{IsSomeAnd, IsTrue}
use Rattle.tp_outside.specs.Outside.{Files, file_at}
use Rattle.tp_command.specs.Form.{Asked}
use Rattle.tp_snapshot.specs.Laws.{OneVerdict}
use Rattle.tp_snapshot.specs.Rules.{IsBrokenAt}
use Rattle.tp_snapshot.specs.Texts.{IsNotJson}
use Rattle.tp_snapshot.specs.declared.fault.SnapFault.TheVariants as snap
use Rattle.tp_session_standing.specs.StandingStates.{standing_state}
use Rattle.tp_program.specs.InOrder.{is_refusal}
use Rattle.tp_program.specs.ResumeEnds.{IsSaved, NoSnapshot, ResumesOn, most_snapshot}
use Rattle.tp_program.specs.ResumesInOrder.{IsResumeInOrder, NoResumeIsRefused}
use Rattle.tp_program.specs.declared.status.Long.TheVariants as size
use Rattle.tp_program.specs.declared.status.Status.{Status}
use Rattle.tp_program.specs.declared.status.Status.TheVariants as status
use Rattle.tp_program.proofs.InOrderFacts.{named_something}
use Rattle.tp_stream.proofs.NextLines.{next-some}
use Rattle.tp_program.proofs.Sizes.{not_too_long, not_too_many}

not_longer : (n : ℕ) → n ≤ 134217728 → 134217728 < n → ⊥
not_longer n fits long = omega (arith, fits, long)

module _ (verdict : OneVerdict) (words : List (List ℕ)) (files : Files) (script : List ℕ) (asked : Asked) (good : IsResumeInOrder words files script asked) where
  same_text : (P : List ℕ → Type 0) (named : IsSaved (Some files) asked.arg P) → named.text ≡ good.text
  same_text P named =
      let known : file_at files asked.arg ≡ Some named.text = named.is_known in
      let here : file_at files asked.arg ≡ Some good.text = good.is_known in
      cc

  has_text : (P : List ℕ → Type 0) → IsSaved (Some files) asked.arg P → P good.text
  has_text P named = subst P (same_text P named) named.has

  found : (s : Status) → IsTrue (is_refusal s) → ¬ NoSnapshot (Some files) asked.arg s
  found (status.Snapshot snap.NotJson) is none = (verdict good.text).json good.machine good.standing good.is_snapshot (has_text IsNotJson none)
  found (status.Snapshot (snap.Rule n)) is none = (verdict good.text).kept good.machine good.standing n good.is_snapshot (has_text (IsBrokenAt n) none)
  found (status.TooLong size.Snapshot) is none = not_longer (length good.text) good.fits (subst (λ found. IsSomeAnd found (λ text. most_snapshot < length text)) good.is_known none)
  found status.Memory is none = absurd cc
  found status.Shelf is none = absurd cc
  found s is none = none

  answered : (s : Status) → IsTrue (is_refusal s) → (left taken taken' : Option (List ℕ)) → ¬ ResumesOn (Some files) asked (Some script) left taken taken' s
  answered (status.TooLong (size.Line n)) is left taken taken' ran =
      let (read, (after, whole, rest_left), to) = ran.did (standing_state ran.machine ran.standing) ran.whole in
      not_too_long 4096 script read to.done to.rest after good.lines_fit whole to.parts to.whole to.stops.0
  answered (status.TooLong size.Lines) is left taken taken' ran =
      let (read, (after, whole, rest_left), to) = ran.did (standing_state ran.machine ran.standing) ran.whole in
      not_too_many 1000000 script read to.done to.rest after good.few whole to.parts to.whole to.stops.0 (next-some 4096 (Some script) left to.rest to.stops.1)
  answered status.Done is left taken taken' ran = absurd cc
  answered status.Memory is left taken taken' ran = absurd cc
  answered status.Source is left taken taken' ran = absurd cc
  answered status.Sink is left taken taken' ran = absurd cc
  answered s is left taken taken' ran = ran.did (standing_state ran.machine ran.standing) ran.whole

pub no_resume_is_refused : OneVerdict → NoResumeIsRefused
no_resume_is_refused verdict words files script asked good = record {
  no_usage = named_something words asked good.named;
  found = found verdict words files script asked good;
  answered = answered verdict words files script asked good;
}
