-- Which standings a machine's desk can go on from.
use Rattle.std.specs.Prelude.{ℕ, ◌+◌, ◌<◌, ◌≤◌, ◌↔◌, ◌⊎◌, List, [], ◌∷◌, length, Option, Some, None, All, AllPairs, IsTrue, IsFalse}
use Rattle.tp_machine.specs.ModuleUse.{is_out}
use Rattle.tp_machine.specs.declared.machine.Machine.{Machine}
use Rattle.tp_machine.specs.declared.parts.Feeder.{Feeder}
use Rattle.tp_machine.specs.declared.parts.Outs.{Outs}
use Rattle.tp_schedule.specs.Answers.{KeepsHorizon}
use Rattle.tp_schedule.specs.Legality.{IsLegal}
use Rattle.tp_schedule.specs.Limits.{most_live}
use Rattle.tp_schedule.specs.LivePlans.{is_live}
use Rattle.tp_schedule.specs.PlannerAnswers.{last_tick}
use Rattle.tp_schedule.specs.Plans.{is_before, is_front, point}
use Rattle.tp_schedule.specs.declared.parts.Plan.{Plan}
use Rattle.tp_schedule.specs.declared.parts.SheetId.{SheetId}
use Rattle.tp_jobs.specs.JobRefusals.{has_media}
use Rattle.tp_jobs.specs.declared.parts.WaitingCopy.{WaitingCopy}
use Rattle.tp_jobs.specs.declared.standing.Standing.{Standing}
use Rattle.tp_event_rules.specs.StateInvariants.{IsLeastAt, IsOlder, KeepsJobs, StandsBehind, is_clear, is_known, is_of_its_job, is_planned_among, is_same_sheet, most_open, open_copies, open_count, tray_plans}
use Rattle.tp_event_rules.specs.Lines.{is_job_broken}
use Rattle.tp_event_rules.specs.Ready.{EntersWhereBroken, HasStartedWhole}
use Rattle.tp_event_rules.specs.Seen.{HasStarted}
use Rattle.tp_session_standing.specs.StandingStates.{standing_state}

-- the most jobs, the last tick of a point, the greatest numbers of a sheet and of a copy, and the most sheets free at a feeder
abbrev pub most_jobs : ℕ
most_jobs = 1000000

abbrev pub last_point : ℕ
last_point = 2000000000

abbrev pub last_sheet : ℕ
last_sheet = 4096

abbrev pub last_number : ℕ
last_number = 4000000000

abbrev pub most_free : ℕ
most_free = 1000256

-- the modules that are out are the machine's
abbrev pub AreModules : Machine → Outs → Type 0
AreModules machine outs = (m : ℕ) → IsTrue (is_out outs m) → m < length machine.modules

-- there is a number for each feeder with a stock, and none for one without end
abbrev pub IsFreeOf : Option ℕ → Option ℕ → Type 0
IsFreeOf None None = Unit {0}
IsFreeOf None (Some free) = ⊥
IsFreeOf (Some stock) None = ⊥
IsFreeOf (Some stock) (Some free) = free ≤ most_free

abbrev pub AreFree : List Feeder → List (Option ℕ) → Type 0
AreFree [] [] = Unit {0}
AreFree [] (free ∷ stock) = ⊥
AreFree (f ∷ feeders) [] = ⊥
AreFree (f ∷ feeders) (free ∷ stock) = IsFreeOf f.stock free × AreFree feeders stock

-- the copy is of one of the jobs, and its numbers are in their ranges
pub record IsNumbered (t : Standing) (copy : SheetId) : Type 0 where
  pub known : IsTrue (is_known t.jobs copy)
  pub sheets : (1 ≤ copy.number) × (copy.number ≤ last_sheet)
  pub copies : (1 ≤ copy.copy) × (copy.copy ≤ last_number)

-- an action counts as released where it starts by now + lead, or where the plan isn't whole: the first few actions of the plan,
-- as many as it says, are just these
abbrev pub IsReleasedBy : Machine → ℕ → Plan → Type 0
IsReleasedBy machine now p = (i : ℕ) → i < length p.acts → (i < p.released) ↔ (IsTrue (is_front p.kind) ⊎ (point p i ≤ now + machine.lead))

-- a plan of the standing: it is live, of its job and for its job's tray or a purge; all actions of a front have started, the first
-- of a purge has, and the last of a plan to the tray of a broken job has; none that has not started uses a module that is out
pub record IsKeptPlan (machine : Machine) (t : Standing) (p : Plan) : Type 0 where
  pub numbered : IsNumbered t p.sheet
  pub own : IsTrue (is_of_its_job t.jobs p)
  pub points : All (λ x. x ≤ last_point) p.points
  pub released : IsReleasedBy machine t.now p
  pub live : IsTrue (is_live machine t.now p)
  pub front : HasStartedWhole t.now p
  pub purge : HasStarted t.now p
  pub broken : EntersWhereBroken t.now t.jobs p
  pub clear : IsTrue (is_clear machine (standing_state machine t) p)

-- a copy that waits: it has no plan, a feeder has its media, and its job isn't broken. None of its line that has a whole plan to
-- the tray stands behind it
pub record IsKeptWaiting (machine : Machine) (t : Standing) (w : WaitingCopy) : Type 0 where
  pub numbered : IsNumbered t w.sheet
  pub media : IsTrue (has_media machine w.want.media)
  pub unplanned : IsFalse (is_planned_among t.plans w.sheet)
  pub whole : IsFalse (is_job_broken t.jobs w.sheet.job)
  pub line : All (StandsBehind t.jobs w) (tray_plans t.plans)

-- all that a desk needs of a standing, and keeps of where it stands
pub record IsSound (machine : Machine) (t : Standing) : Type 0 where
  pub now_at_most : t.now ≤ last_tick
  pub outs : AreModules machine t.outs
  pub stock : AreFree machine.feeders t.stock
  -- jobs of different names, to trays of the machine
  pub few_jobs : length t.jobs ≤ most_jobs
  pub jobs : KeepsJobs machine t.jobs
  -- plans and waiting copies, each in the order of copies; of each sheet at most one copy is open, which is its newest
  pub few_plans : length t.plans ≤ most_live
  pub plans : All (IsKeptPlan machine t) t.plans
  pub few_waiting : length t.waiting ≤ most_open
  pub few_open : open_count (standing_state machine t) ≤ most_open
  pub in_order : AllPairs (λ v w. IsTrue (is_before v.sheet w.sheet)) t.waiting
  pub waiting : All (IsKeptWaiting machine t) t.waiting
  pub one : AllPairs (λ a b. IsFalse (is_same_sheet a b)) (open_copies (standing_state machine t))
  pub newest : All (λ p. All (IsOlder p) (open_copies (standing_state machine t))) t.plans
  -- the schedule is legal within the horizon, and least
  pub legal : IsLegal machine t.plans
  pub horizon : KeepsHorizon machine t.now t.plans
  pub least : IsLeastAt machine (standing_state machine t)
