-- What the rules of a snapshot ask of the standing that it tells of its machine, beyond the form of each part.
use Rattle.std.specs.Prelude.{ℕ, ◌-◌, ◌≤◌, List, ◌++◌, map, All, AllPairs, IsTrue, IsFalse}
use Rattle.tp_machine.specs.declared.machine.Machine.{Machine}
use Rattle.tp_schedule.specs.Answers.{KeepsHorizon}
use Rattle.tp_schedule.specs.Legality.{IsLegal}
use Rattle.tp_schedule.specs.LivePlans.{is_live}
use Rattle.tp_schedule.specs.Plans.{IsEarlier, IsTimedPlan, is_before}
use Rattle.tp_schedule.specs.declared.parts.Plan.{Plan}
use Rattle.tp_schedule.specs.declared.parts.SheetId.{SheetId}
use Rattle.tp_jobs.specs.JobRefusals.{has_media}
use Rattle.tp_jobs.specs.declared.parts.WaitingCopy.{WaitingCopy}
use Rattle.tp_jobs.specs.declared.standing.Standing.{Standing}
use Rattle.tp_event_rules.specs.StateInvariants.{IsLeastAt, IsOlder, StandsBehind, is_clear, is_planned_among, is_same_sheet, most_open, open_count, tray_plans}
use Rattle.tp_event_rules.specs.Lines.{is_job_broken}
use Rattle.tp_event_rules.specs.Ready.{EntersWhereBroken, HasStartedWhole}
use Rattle.tp_event_rules.specs.Seen.{HasStarted}
use Rattle.tp_session_standing.specs.StandingStates.{standing_state}

-- the plans stand in the order of copies, no copy twice
abbrev pub AreInOrder : List Plan → Type 0
AreInOrder plans = AllPairs IsEarlier plans

-- a copy that can wait: a feeder has its media, it has no plan, and its job isn't broken
pub record CanWait (machine : Machine) (t : Standing) (w : WaitingCopy) : Type 0 where
  pub media : IsTrue (has_media machine w.want.media)
  pub unplanned : IsFalse (is_planned_among t.plans w.sheet)
  pub whole : IsFalse (is_job_broken t.jobs w.sheet.job)

-- one copy that waits stands before another
abbrev pub WaitsBefore : WaitingCopy → WaitingCopy → Type 0
WaitsBefore v w = IsTrue (is_before v.sheet w.sheet)

-- the copies that wait can wait, and stand in the order of copies; with those on their way to a tray they are not too many
pub record KeepsWaiting (machine : Machine) (t : Standing) : Type 0 where
  pub in_order : AllPairs WaitsBefore t.waiting
  pub can_wait : All (CanWait machine t) t.waiting
  pub few_open : open_count (standing_state machine t) ≤ most_open

-- a plan in its times: it is a timed plan, and live
pub record IsOnItsWay (machine : Machine) (now : ℕ) (p : Plan) : Type 0 where
  pub timed : IsTimedPlan machine p
  pub live : IsTrue (is_live machine now p)

abbrev pub AreOnTheirWay : Machine → Standing → Type 0
AreOnTheirWay machine t = All (IsOnItsWay machine t.now) t.plans

-- how far a plan has come: all actions of a front have started, the first of a purge has, and none that has not started uses a
-- module that is out
pub record HasCome (machine : Machine) (t : Standing) (p : Plan) : Type 0 where
  pub front : HasStartedWhole t.now p
  pub purge : HasStarted t.now p
  pub clear : IsTrue (is_clear machine (standing_state machine t) p)

-- the schedule is legal and within the horizon, and its plans have come as far as they must
pub record KeepsSchedule (machine : Machine) (t : Standing) : Type 0 where
  pub legal : IsLegal machine t.plans
  pub horizon : KeepsHorizon machine t.now t.plans
  pub come : All (HasCome machine t) t.plans

-- two copies are of different sheets
abbrev pub AreOfOthers : SheetId → SheetId → Type 0
AreOfOthers a b = IsFalse (is_same_sheet a b)

-- the copies that wait or have a whole plan to their tray
abbrev pub open_in : Standing → List SheetId
open_in t = map (λ w. w.sheet) t.waiting ++ map (λ p. p.sheet) (tray_plans t.plans)

-- of each sheet at most one copy is open, and it is the newest of its sheet. No copy waits before one of its line that has a
-- whole plan to the tray, and such plans of broken jobs have entered
pub record KeepsCopies (t : Standing) : Type 0 where
  pub one : AllPairs AreOfOthers (open_in t)
  pub newest : All (λ p. All (IsOlder p) (open_in t)) t.plans
  pub line : All (λ w. All (StandsBehind t.jobs w) (tray_plans t.plans)) t.waiting
  pub broken : All (EntersWhereBroken t.now t.jobs) t.plans

-- no point of the schedule could be earlier
abbrev pub KeepsTimes : Machine → Standing → Type 0
KeepsTimes machine t = IsLeastAt machine (standing_state machine t)

-- by their numbers among the rules of a snapshot, the rules from 7 on are kept up to this one
pub record AreKeptTo (n : ℕ) (machine : Machine) (t : Standing) : Type 0 where
  pub courses : 7 ≤ n → AreOnTheirWay machine t
  pub schedule : 8 ≤ n → KeepsSchedule machine t
  pub copies : 9 ≤ n → KeepsCopies t
  pub times : 10 ≤ n → KeepsTimes machine t

-- the rule of this number is the first of them that is broken
pub record IsFirstBroken (n : ℕ) (machine : Machine) (t : Standing) : Type 0 where
  pub from : 7 ≤ n
  pub to : n ≤ 10
  pub before : AreKeptTo (n - 1) machine t
  pub broken : ¬ AreKeptTo n machine t
