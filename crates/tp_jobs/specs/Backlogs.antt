-- What clauses see of the lines: the jobs and the copies that wait.
use Rattle.std.specs.Prelude.{ℕ, zero, suc, ◌+◌, ◌<◌, ◌^◌, ◌≢◌, true, List, [], ◌∷◌, length, map, slice_get, Option, Some, None, All, AllPairs, IsTrue}
use Rattle.tp_machine.specs.declared.parts.LocId.{LocId}
use Rattle.tp_schedule.specs.Plans.{is_before}
use Rattle.tp_schedule.specs.declared.parts.SheetId.{SheetId}
use Rattle.tp_jobs.specs.declared.parts.Job.{Job}
use Rattle.tp_jobs.specs.declared.parts.WaitingCopy.{WaitingCopy}

-- what jobs and waiting copies were at the last mark
pub record Kept : Type 0 where
  pub jobs : List Job
  pub waiting : List WaitingCopy

-- the jobs in the order of arrival, the copies that wait, in the order of copies, and what both were at the last mark
pub record Backlog : Type 0 where
  pub jobs : List Job
  pub waiting : List WaitingCopy
  pub kept : Kept

-- the lines before the first mark has anything to keep
abbrev pub unmarked : List Job → List WaitingCopy → Backlog
unmarked jobs waiting = record { jobs = jobs; waiting = waiting; kept = record { jobs = []; waiting = [] } }

abbrev pub no_backlog : Backlog
no_backlog = unmarked [] []

-- the lines with a mark at what they are
abbrev pub marked : Backlog → Backlog
marked lines = record lines { kept = record { jobs = lines.jobs; waiting = lines.waiting } }

-- the lines as they were at the last mark, which stays
abbrev pub undone : Backlog → Backlog
undone lines = record { jobs = lines.kept.jobs; waiting = lines.kept.waiting; kept = lines.kept }

abbrev pub names_of : List Job → List (List ℕ)
names_of jobs = map (λ j. j.name) jobs

-- the tray of a copy's job, and so its line
abbrev pub tray_in : Option Job → LocId
tray_in None = record { 0 = 0 }
tray_in (Some j) = j.tray

abbrev pub tray_of : List Job → SheetId → LocId
tray_of jobs copy = tray_in (slice_get jobs copy.job)

-- the jobs, of which one is broken
abbrev pub mark_broken : ℕ → List Job → List Job
mark_broken n [] = []
mark_broken zero (job ∷ jobs) = record job { broken = true } ∷ jobs
mark_broken (suc n) (job ∷ jobs) = job ∷ mark_broken n jobs

-- the next copy of the sheet
abbrev pub next_copy : SheetId → SheetId
next_copy copy = record copy { copy = copy.copy + 1 }

-- a copy waits before another
abbrev pub WaitsBefore : WaitingCopy → WaitingCopy → Type 0
WaitsBefore v w = IsTrue (is_before v.sheet w.sheet)

-- the copy is of one of the jobs
abbrev pub IsOfJob : List Job → WaitingCopy → Type 0
IsOfJob jobs w = w.sheet.job < length jobs

-- no two jobs have one name; the copies that wait are of jobs that came, each once and in the order of copies
pub record IsBacklog (lines : Backlog) : Type 0 where
  pub named : AllPairs (λ i j. i.name ≢ j.name) lines.jobs
  pub in_order : AllPairs WaitsBefore lines.waiting
  pub of_jobs : All (IsOfJob lines.jobs) lines.waiting
  pub few_jobs : length lines.jobs < 2 ^ 32
  pub few_waiting : length lines.waiting < 2 ^ 32
