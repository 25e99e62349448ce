-- When a state can take any event: what a turn needs, and keeps.
use Rattle.std.specs.Prelude.{ℕ, ◌<◌, ◌≤◌, ◌-◌, List, length, All, IsTrue, IsFalse}
use Rattle.tp_machine.specs.declared.machine.Machine.{Machine}
use Rattle.tp_schedule.specs.LivePlans.{is_live}
use Rattle.tp_schedule.specs.PlannerAnswers.{last_tick}
use Rattle.tp_schedule.specs.Plans.{is_front, point}
use Rattle.tp_schedule.specs.declared.parts.Plan.{Plan}
use Rattle.tp_stock.specs.Stock.{AreWithin, IsStockedWithin}
use Rattle.tp_jobs.specs.declared.parts.Job.{Job}
use Rattle.tp_event_rules.specs.States.{SessionState}
use Rattle.tp_event_rules.specs.Lines.{is_job_broken}
use Rattle.tp_event_rules.specs.Moments.{is_tray_plan}
use Rattle.tp_event_rules.specs.StateInvariants.{KeepsJobs, KeepsLines, KeepsPlans, IsLeastAt, IsOlder, open_copies}
use Rattle.tp_event_rules.specs.Laws.{IsStocked}
use Rattle.tp_event_rules.specs.Seen.{HasStarted}

-- the last action of the plan has started: its copy is entering its goal or was delivered there
abbrev pub HasEntered : ℕ → Plan → Type 0
HasEntered now p = point p (length p.acts - 1) ≤ now

-- where the job is broken, a plan of it to its tray has entered
abbrev pub EntersWhereBroken : ℕ → List Job → Plan → Type 0
EntersWhereBroken now jobs p = IsTrue (is_tray_plan p) → IsTrue (is_job_broken jobs p.sheet.job) → HasEntered now p

-- no copy of a broken job waits, and each open copy of one is entering or was delivered
pub record KeepsBroken (s : SessionState) : Type 0 where
  pub waiting : All (λ w. IsFalse (is_job_broken s.jobs w.sheet.job)) s.waiting
  pub plans : All (EntersWhereBroken s.now s.jobs) s.plans

-- all actions of a front have started
abbrev pub HasStartedWhole : ℕ → Plan → Type 0
HasStartedWhole now p = IsTrue (is_front p.kind) → (i : ℕ) → i < length p.acts → point p i ≤ now

-- no copy has a greater number than this, and no more jobs came
pub record CopiesAtMost (copies : ℕ) (s : SessionState) : Type 0 where
  pub jobs : length s.jobs ≤ copies
  pub waiting : All (λ w. w.sheet.copy ≤ copies) s.waiting
  pub planned : All (λ p. p.sheet.copy ≤ copies) s.plans

-- the greatest number of a copy that can have a next one
abbrev pub last_copy : ℕ
last_copy = 4294967294

-- what a live state keeps between events, and needs where a module goes out: its plans are live, jobs, plans and lines are
-- kept, no copy of a broken job is still on its way, no planned copy is older than an open one of its sheet, what is
-- purged has started, fronts have started whole, and no copy has a greater number than this
pub record KeepsLive (machine : Machine) (copies : ℕ) (s : SessionState) : Type 0 where
  pub now_at_most : s.now ≤ last_tick
  pub live : All (λ p. IsTrue (is_live machine s.now p)) s.plans
  pub jobs : KeepsJobs machine s.jobs
  pub plans : KeepsPlans machine s
  pub lines : KeepsLines s
  pub broken : KeepsBroken s
  pub older : All (λ p. All (IsOlder p) (open_copies s)) s.plans
  pub purges : All (HasStarted s.now) s.plans
  pub fronts : All (HasStartedWhole s.now) s.plans
  pub numbers : CopiesAtMost copies s

-- no stock is overdrawn or beyond what it can come to, and the refills are within what so many events make of them
pub record KeepsStock (machine : Machine) (events : ℕ) (s : SessionState) : Type 0 where
  pub drawn : IsStocked machine s
  pub most : IsStockedWithin machine s.refills
  pub within : AreWithin events s.refills

-- any event can be taken: the schedule is least as well
pub record CanTakeEvents (machine : Machine) (copies : ℕ) (s : SessionState) : Type 0 where
  pub kept : KeepsLive machine copies s
  pub least : IsLeastAt machine s
