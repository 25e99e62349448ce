-- Snapshots and scripts in which everything is in order, and what that excludes.
use Rattle.std.specs.Prelude.{◌≡◌, ◌≢◌, ℕ, ◌≤◌, List, All, length, Option, Some, None, IsTrue}
use Rattle.tp_outside.specs.Outside.{Files, file_at}
use Rattle.tp_machine.specs.declared.machine.Machine.{Machine}
use Rattle.tp_command.specs.Form.{Asked, form}
use Rattle.tp_command.specs.declared.request.Mode.TheVariants.{Resume}
use Rattle.tp_jobs.specs.declared.standing.Standing as kept
use Rattle.tp_snapshot.specs.Rules.{IsSnapshot}
use Rattle.tp_words.specs.Texts.{lines_of}
use Rattle.tp_stream.specs.Scripts.{line_bytes, most_lines}
use Rattle.tp_stream.specs.Takes.{FitsIn}
use Rattle.tp_program.specs.InOrder.{is_refusal}
use Rattle.tp_program.specs.ResumeEnds.{NoSnapshot, ResumesOn, most_snapshot}
use Rattle.tp_program.specs.declared.status.Status.{Status}

-- the words ask to go on from a snapshot, and it and the script keep their sizes
pub record IsResumeInOrder (words : List (List ℕ)) (files : Files) (script : List ℕ) (asked : Asked) : Type 0 where
  pub named : form words ≡ Some asked
  pub mode : asked.mode ≡ Resume
  pub text : List ℕ
  pub is_known : file_at files asked.arg ≡ Some text
  pub fits : length text ≤ most_snapshot
  pub machine : Machine
  pub standing : kept.Standing
  pub is_snapshot : IsSnapshot text machine standing
  pub lines_fit : All (FitsIn line_bytes) (lines_of script)
  pub few : length (lines_of script) ≤ most_lines

-- then no cause of a refusal holds
pub record ResumeIsNotRefused (words : List (List ℕ)) (files : Files) (script : List ℕ) (asked : Asked) : Type 0 where
  pub no_usage : form words ≢ None
  pub found : (status : Status) → IsTrue (is_refusal status) → ¬ NoSnapshot (Some files) asked.arg status
  pub answered : (status : Status) → IsTrue (is_refusal status) → (left taken taken' : Option (List ℕ))
      → ¬ ResumesOn (Some files) asked (Some script) left taken taken' status

abbrev pub NoResumeIsRefused : Type 0
NoResumeIsRefused = (words : List (List ℕ)) (files : Files) (script : List ℕ) (asked : Asked)
    → IsResumeInOrder words files script asked → ResumeIsNotRefused words files script asked
