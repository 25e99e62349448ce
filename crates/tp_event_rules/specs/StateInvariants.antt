-- What a state keeps between events, and its live part.
use Rattle.std.specs.Prelude.{◌≡◌, ◌≢◌, ℕ, ℤ, ◌+◌, ◌<◌, ◌≤◌, Bool, true, not, ◌&&◌, ◌||◌, ◌==◌, nat_lt, nat_le, List, ◌++◌, length, slice_index, map, filter, count_by, All, AllPairs, Any, Contains, IsTrue, IsFalse}
use Rattle.std.specs.List.{list_any, list_all}
use Rattle.std.specs.Str.{bytes_eq}
use Rattle.tp_machine.specs.declared.machine.Machine.{Machine}
use Rattle.tp_schedule.specs.Answers.{KeepsFloors, KeepsHorizon, IsLeast}
use Rattle.tp_schedule.specs.Holders.{runs_of}
use Rattle.tp_schedule.specs.Legality.{IsLegal}
use Rattle.tp_schedule.specs.Limits.{most_live}
use Rattle.tp_schedule.specs.LivePlans.{is_live, live_count}
use Rattle.tp_schedule.specs.PlannerAnswers.{none_exempt}
use Rattle.tp_schedule.specs.Plans.{end_of_plan, is_before, is_front, is_same_copy}
use Rattle.tp_schedule.specs.Routes.{is_act_allowed}
use Rattle.tp_schedule.specs.declared.parts.Goal.{Goal}
use Rattle.tp_schedule.specs.declared.parts.Goal.TheVariants.{Tray, Purge}
use Rattle.tp_schedule.specs.declared.parts.Plan.{Plan}
use Rattle.tp_schedule.specs.declared.parts.SheetId.{SheetId}
use Rattle.tp_stock.specs.Stock.{less_taken}
use Rattle.tp_jobs.specs.declared.parts.Job.{Job}
use Rattle.tp_jobs.specs.declared.parts.WaitingCopy.{WaitingCopy}
use Rattle.tp_jobs.specs.Backlogs.{tray_of}
use Rattle.tp_event_rules.specs.States.{SessionState}
use Rattle.tp_event_rules.specs.Lines.{is_job_broken, is_same_line}
use Rattle.tp_event_rules.specs.Labels.{job_name}
use Rattle.tp_event_rules.specs.Moments.{is_started, is_tray_plan}

-- the copies that have a whole plan to their tray: planned, entering or delivered
abbrev pub tray_plans : List Plan → List Plan
tray_plans plans = filter is_tray_plan plans

-- the most copies that wait or are on their way to a tray: 4,096 that wait and 256 that are live
abbrev pub most_open : ℕ
most_open = 4352

abbrev pub is_to_arrive : ℕ → Plan → Bool
is_to_arrive now p = is_tray_plan p && nat_lt now (end_of_plan p)

abbrev pub open_count : SessionState → ℕ
open_count s = length s.waiting + count_by (is_to_arrive s.now) s.plans

-- no action of the plan that has not started uses a module that is out
abbrev pub is_clear : Machine → SessionState → Plan → Bool
is_clear machine s p = list_all (λ run. is_started s.now run || is_act_allowed machine s.outs run.act) (runs_of p)

-- the schedule is legal, its unreleased starts are above now + lead and its points within the horizon, not too many
-- copies are live or open, and none is to run on a module that is out
pub record KeepsPlans (machine : Machine) (s : SessionState) : Type 0 where
  pub legal : IsLegal machine s.plans
  pub floors : KeepsFloors machine s.now none_exempt s.plans
  pub horizon : KeepsHorizon machine s.now s.plans
  pub few_live : live_count machine s.now s.plans ≤ most_live
  pub few_open : open_count s ≤ most_open
  pub clear : IsTrue (list_all (is_clear machine s) s.plans)

-- Lines.

abbrev pub open_copies : SessionState → List SheetId
open_copies s = map (λ w. w.sheet) s.waiting ++ map (λ p. p.sheet) (tray_plans s.plans)

abbrev pub is_same_sheet : SheetId → SheetId → Bool
is_same_sheet a b = (a.job == b.job) && (a.number == b.number)

abbrev pub is_planned_among : List Plan → SheetId → Bool
is_planned_among plans copy = list_any (λ p. is_same_copy p.sheet copy) plans

abbrev pub is_known : List Job → SheetId → Bool
is_known jobs copy = nat_lt copy.job (length jobs)

-- the goal of a plan is its job's tray or a purge, and its name is its job's
abbrev pub is_own_goal : Goal → ℕ → Bool
is_own_goal (Tray t) tray = t.0 == tray
is_own_goal Purge tray = true

abbrev pub is_of_its_job : List Job → Plan → Bool
is_of_its_job jobs p =
    is_known jobs p.sheet && bytes_eq p.name (job_name jobs p.sheet.job) && is_own_goal p.goal (tray_of jobs p.sheet).0

-- the copy that waits stands behind the planned one where both are of one line
abbrev pub StandsBehind : List Job → WaitingCopy → Plan → Type 0
StandsBehind jobs w p = IsTrue (is_same_line jobs w.sheet p.sheet) → IsTrue (is_before p.sheet w.sheet)

-- the copies that wait stand in order and have no plan; none of them stands before one of its line with a whole plan to
-- the tray; of each sheet at most one copy is open; plans are of their jobs; and the fronts are those of the lost
-- copies, so that no copy is loose
pub record KeepsLines (s : SessionState) : Type 0 where
  pub in_order : AllPairs (λ v w. IsTrue (is_before v.sheet w.sheet)) s.waiting
  pub waiting_known : All (λ w. IsTrue (is_known s.jobs w.sheet)) s.waiting
  pub unplanned : All (λ w. IsFalse (is_planned_among s.plans w.sheet)) s.waiting
  pub line : All (λ w. All (StandsBehind s.jobs w) (tray_plans s.plans)) s.waiting
  pub one : AllPairs (λ a b. IsFalse (is_same_sheet a b)) (open_copies s)
  pub plans_known : All (λ p. IsTrue (is_of_its_job s.jobs p)) s.plans
  pub fronts : map (λ p. p.sheet) (filter (λ p. is_front p.kind) s.plans) ≡ s.lost

-- Sheets: these facts speak of the past too, so that they hold of the whole state alone.

abbrev pub is_copy_of : ℕ → ℕ → SheetId → Bool
is_copy_of job number copy = (copy.job == job) && (copy.number == number)

-- how many sheets each job has, in the order of arrival, stands beside the state
abbrev pub total_of : List ℕ → ℕ → ℕ
total_of totals job = slice_index totals job

abbrev pub is_sheet_of : List ℕ → SheetId → Bool
is_sheet_of totals copy = nat_le 1 copy.number && nat_le copy.number (total_of totals copy.job)

-- a copy that was lost or given up is older than the open copy of its sheet
abbrev pub IsOlder : Plan → SheetId → Type 0
IsOlder p copy = IsFalse (is_tray_plan p) → IsTrue (is_same_sheet p.sheet copy) → p.sheet.copy < copy.copy

-- there is a total for each job, and each sheet of a job that is not broken has an open copy; with `one` it has exactly one
pub record KeepsSheets (totals : List ℕ) (s : SessionState) : Type 0 where
  pub known : length totals ≡ length s.jobs
  pub each : (job number : ℕ) → job < length s.jobs → IsFalse (is_job_broken s.jobs job) → 1 ≤ number → number ≤ total_of totals job
      → Any (λ copy. IsTrue (is_copy_of job number copy)) (open_copies s)
  pub waiting_sheets : All (λ w. IsTrue (is_sheet_of totals w.sheet)) s.waiting
  pub planned_sheets : All (λ p. IsTrue (is_sheet_of totals p.sheet)) s.plans
  pub older : All (λ p. All (IsOlder p) (open_copies s)) s.plans

-- jobs have trays of the machine, and different names
pub record KeepsJobs (machine : Machine) (jobs : List Job) : Type 0 where
  pub trays : All (λ j. Contains machine.trays j.tray) jobs
  pub names : AllPairs (λ i j. i.name ≢ j.name) jobs

-- what is kept between events: jobs, plans, lines and sheets
pub record KeepsState (machine : Machine) (totals : List ℕ) (s : SessionState) : Type 0 where
  pub jobs : KeepsJobs machine s.jobs
  pub plans : KeepsPlans machine s
  pub lines : KeepsLines s
  pub sheets : KeepsSheets totals s

-- and that the schedule is least
abbrev pub IsLeastAt : Machine → SessionState → Type 0
IsLeastAt machine s = IsLeast machine s.now none_exempt s.plans

-- The live part: the plans that are live, the lost copies among them, and the refills less what is forgotten.

abbrev pub live_plans : Machine → SessionState → List Plan
live_plans machine s = filter (is_live machine s.now) s.plans

-- the refills less the sheets of the plans that are not live, so that the free stock is the same: a number may be below 0
abbrev pub live_refills : Machine → SessionState → List ℤ
live_refills machine s = less_taken machine (filter (λ p. not (is_live machine s.now p)) s.plans) s.refills

abbrev pub live_part : Machine → SessionState → SessionState
live_part machine s = record s {
  plans = live_plans machine s;
  lost = filter (is_planned_among (live_plans machine s)) s.lost;
  refills = live_refills machine s;
}
