-- What the parts of the lines keep.
use Rattle.std.specs.Prelude.{◌≡◌, ℕ, zero, suc, ◌+◌, ◌<◌, ◌≤◌, ◌^◌, false, not, List, [], ◌∷◌, length, take, count_by, vec_len, vec_capacity, All, AllPairs}
use Rattle.std.specs.List.{IsDistinct}
use Rattle.std.specs.Str.{bytes_eq}
use Rattle.std.specs.VecDeque.{deque_capacity}
use Rattle.tp_jobs.specs.Backlogs.{Backlog, names_of, WaitsBefore, IsOfJob}
use Rattle.tp_jobs.specs.declared.lines.Lines.TheInside.{Inside}
use Rattle.tp_jobs.specs.declared.parts.Job.{Job}
use Rattle.tp_jobs.specs.declared.parts.WaitingCopy.{WaitingCopy}

-- the names that are looked up are those of the jobs, each once; the copies that wait are of jobs that came, each once
-- and in the order of copies
pub record Keeps (names : List (List ℕ)) (jobs : List Job) (waiting : List WaitingCopy) : Type 0 where
  pub of_names : names ≡ names_of jobs
  pub distinct : IsDistinct bytes_eq names
  pub in_order : AllPairs WaitsBefore waiting
  pub of_jobs : All (IsOfJob jobs) waiting
  pub few_jobs : length jobs < 2 ^ 32
  pub few_waiting : length waiting < 2 ^ 32

-- the jobs, of which one is whole again
abbrev pub mark_whole : ℕ → List Job → List Job
mark_whole n [] = []
mark_whole zero (job ∷ jobs) = record job { broken = false } ∷ jobs
mark_whole (suc n) (job ∷ jobs) = job ∷ mark_whole n jobs

-- the jobs, of which these are whole again
abbrev pub mark_all_whole : List ℕ → List Job → List Job
mark_all_whole [] jobs = jobs
mark_all_whole (n ∷ ns) jobs = mark_all_whole ns (mark_whole n jobs)

-- how many jobs aren't broken
abbrev pub whole_count : List Job → ℕ
whole_count jobs = count_by (λ j. not j.broken) jobs

-- the jobs at the mark, when so many had come, of which these broke since
abbrev pub jobs_then : ℕ → List ℕ → List Job → List Job
jobs_then came broken jobs = mark_all_whole broken (take came jobs)

-- the lines that the parts make up
abbrev pub backlog_of : Inside → Backlog
backlog_of l = record {
  jobs = l.jobs.items;
  waiting = l.waiting.items;
  kept = record { jobs = jobs_then l.kept_jobs l.broken.items l.jobs.items; waiting = l.kept_waiting.items };
}

-- now and at the mark the parts fit one another, and there is room to break each job that isn't broken and to let the copies
-- of the mark wait again
pub record KeepsMark (l : Inside) : Type 0 where
  pub now : Keeps l.names.keys l.jobs.items l.waiting.items
  pub then : Keeps (take l.kept_jobs l.names.keys) (jobs_then l.kept_jobs l.broken.items l.jobs.items) l.kept_waiting.items
  pub came : l.kept_jobs ≤ length l.jobs.items
  pub to_break : vec_len l.broken + whole_count l.jobs.items ≤ vec_capacity l.broken
  pub to_wait : length l.kept_waiting.items ≤ deque_capacity l.waiting
