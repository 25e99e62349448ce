-- The copies that wait: one more, one less, and those of a new job.
use Rattle.std.specs.Prelude.{ℕ, ◌+◌, ◌==◌, Bool, false, not, List, [], ◌∷◌, ◌++◌, length, filter, find, flat_map, replicate, Option, Some, None, if◌then◌else◌}
use Rattle.std.specs.List.{list_any}
use Rattle.tp_machine.specs.declared.parts.LocId.{LocId}
use Rattle.tp_machine.specs.declared.parts.Sheet.{Sheet}
use Rattle.tp_machine.specs.declared.machine.Machine.{Machine}
use Rattle.tp_schedule.specs.Plans.{is_before, is_same_copy}
use Rattle.tp_schedule.specs.declared.parts.SheetId.{SheetId}
use Rattle.tp_script.specs.Form.{GroupForm}
use Rattle.tp_jobs.specs.Backlogs.{Backlog, tray_of}
use Rattle.tp_jobs.specs.JobRefusals.{tray_named}
use Rattle.tp_jobs.specs.declared.parts.Job.{Job}
use Rattle.tp_jobs.specs.declared.parts.WaitingCopy.{WaitingCopy}

-- the copy among those that wait
abbrev pub find_waiting : SheetId → List WaitingCopy → Option WaitingCopy
find_waiting copy waiting = find (λ w. is_same_copy w.sheet copy) waiting

-- a copy waits whose job is for the tray, and so in the tray's line
abbrev pub has_waiting : List Job → List WaitingCopy → LocId → Bool
has_waiting jobs waiting tray = list_any (λ w. (tray_of jobs w.sheet).0 == tray.0) waiting

-- the waiting copies with one more, in its place in the order
abbrev pub put_waiting : List WaitingCopy → WaitingCopy → List WaitingCopy
put_waiting [] w = w ∷ []
put_waiting (v ∷ waiting) w = if is_before w.sheet v.sheet then w ∷ v ∷ waiting else (v ∷ put_waiting waiting w)

-- the waiting copies without this one
abbrev pub without_waiting : SheetId → List WaitingCopy → List WaitingCopy
without_waiting copy waiting = filter (λ w. not (is_same_copy w.sheet copy)) waiting

-- the sheets of a job, in their order
abbrev pub sheet_of : List ℕ → GroupForm → Sheet
sheet_of media g = record { media = media; front = g.front; back = g.back; face = g.face }

abbrev pub sheets_of : List ℕ → List GroupForm → List Sheet
sheets_of media groups = flat_map (λ g. replicate g.count (sheet_of media g)) groups

-- the first copy of each sheet, whose numbers count from this one on
abbrev pub first_copies : ℕ → ℕ → List Sheet → List WaitingCopy
first_copies job n [] = []
first_copies job n (want ∷ wants) = record { sheet = record { job = job; number = n; copy = 1 }; want = want } ∷ first_copies job (n + 1) wants

-- the tray, and any location where there is none
abbrev pub given_tray : Option LocId → LocId
given_tray None = record { 0 = 0 }
given_tray (Some tray) = tray

-- the job as it comes
abbrev pub new_job : Machine → List ℕ → List ℕ → List GroupForm → Job
new_job machine name tray groups = record { name = name; tray = given_tray (tray_named machine tray); broken = false }

-- the lines with a new job, whose copies wait behind all others
abbrev pub with_job : Job → List Sheet → Backlog → Backlog
with_job job wants lines = record lines {
  jobs = lines.jobs ++ job ∷ [];
  waiting = lines.waiting ++ first_copies (length lines.jobs) 1 wants;
}
