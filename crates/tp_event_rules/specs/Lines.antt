-- Jobs, their lines, and the copies that wait.
use Rattle.std.specs.Prelude.{ℕ, ◌==◌, Bool, false, List, fold, slice_get, Option, Some, None}
use Rattle.std.specs.List.{list_any}
use Rattle.tp_schedule.specs.Plans.{is_same_copy}
use Rattle.tp_schedule.specs.declared.parts.Plan.{Plan}
use Rattle.tp_schedule.specs.declared.parts.SheetId.{SheetId}
use Rattle.tp_jobs.specs.Backlogs.{tray_of}
use Rattle.tp_jobs.specs.WaitingCopies.{put_waiting}
use Rattle.tp_jobs.specs.declared.parts.Job.{Job}
use Rattle.tp_jobs.specs.declared.parts.WaitingCopy.{WaitingCopy}
use Rattle.tp_event_rules.specs.States.{SessionState}

-- whether a job is broken
abbrev pub broken_in : Option Job → Bool
broken_in None = false
broken_in (Some j) = j.broken

abbrev pub is_job_broken : List Job → ℕ → Bool
is_job_broken jobs job = broken_in (slice_get jobs job)

-- a line is all sheets that are asked for one tray, in the order of copies
abbrev pub is_same_line : List Job → SheetId → SheetId → Bool
is_same_line jobs a b = (tray_of jobs a).0 == (tray_of jobs b).0

-- the plan of a copy that was lost
abbrev pub is_lost : SessionState → Plan → Bool
is_lost s p = list_any (is_same_copy p.sheet) s.lost

-- the waiting copies with some more, each in its place in the order
abbrev pub put_all_waiting : List WaitingCopy → List WaitingCopy → List WaitingCopy
put_all_waiting waiting more = fold put_waiting waiting more

abbrev pub is_of_job : ℕ → WaitingCopy → Bool
is_of_job job w = w.sheet.job == job
