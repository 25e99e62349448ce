-- The state that a schedule, jobs, waiting copies and modules show at a moment where no copy is loose. What was refilled it
-- does not tell.
use Rattle.std.specs.Prelude.{ℕ, ◌+◌, ◌^◌, ◌<◌, ◌≤◌, List, map, filter, All, IsFalse}
use Rattle.tp_machine.specs.declared.parts.Outs.{Outs}
use Rattle.tp_machine.specs.declared.machine.Machine.{Machine}
use Rattle.tp_schedule.specs.PlannerAnswers.{IsKnownGoal}
use Rattle.tp_schedule.specs.Plans.{AreNamed, is_front, point}
use Rattle.tp_schedule.specs.declared.parts.Plan.{Plan}
use Rattle.tp_schedule.specs.declared.parts.SheetId.{SheetId}
use Rattle.tp_stock.specs.Stock.{no_refills}
use Rattle.tp_jobs.specs.Backlogs.{Backlog}
use Rattle.tp_event_rules.specs.States.{SessionState}
use Rattle.tp_event_rules.specs.Moments.{is_to_tray}
use Rattle.tp_event_rules.specs.StateInvariants.{KeepsPlans, KeepsLines, IsLeastAt}

-- where no copy is loose, the fronts are those of the lost copies
abbrev pub fronts_of : List Plan → List SheetId
fronts_of plans = map (λ p. p.sheet) (filter (λ p. is_front p.kind) plans)

abbrev pub state_seen : ℕ → List Plan → Backlog → Outs → SessionState
state_seen now plans backlog outs = record {
  now = now;
  plans = plans;
  lost = fronts_of plans;
  jobs = backlog.jobs;
  waiting = backlog.waiting;
  outs = outs;
  refills = no_refills;
}

-- the next copy's number can be written
abbrev pub HasNextCopy : SheetId → Type 0
HasNextCopy copy = copy.copy + 1 < 2 ^ 32

-- a copy that is to be purged has started
abbrev pub HasStarted : ℕ → Plan → Type 0
HasStarted now p = IsFalse (is_to_tray p.goal) → point p 0 ≤ now
