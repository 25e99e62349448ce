-- What a plan does at a moment.
use Rattle.std.specs.Prelude.{ℕ, ◌+◌, Bool, true, false, not, ◌&&◌, ◌==◌, nat_lt, nat_le, List, length, filter, count_by, Option, Some, None}
use Rattle.std.specs.List.{list_any}
use Rattle.tp_machine.specs.ModuleUse.{action_at, uses_module}
use Rattle.tp_machine.specs.declared.parts.ActId.{ActId}
use Rattle.tp_machine.specs.declared.parts.Action.{Action}
use Rattle.tp_machine.specs.declared.machine.Machine.{Machine}
use Rattle.tp_schedule.specs.Plans.{cut_to, point, is_front}
use Rattle.tp_schedule.specs.Holders.{Run, runs_of}
use Rattle.tp_schedule.specs.declared.parts.Goal.{Goal}
use Rattle.tp_schedule.specs.declared.parts.Goal.TheVariants.{Tray, Purge}
use Rattle.tp_schedule.specs.declared.parts.Plan.{Plan}

-- an action has started from its start on, and runs until just before its end
abbrev pub is_started : ℕ → Run → Bool
is_started now run = nat_le run.start now

abbrev pub is_running : ℕ → Run → Bool
is_running now run = is_started now run && nat_lt now run.end

-- a copy is in flight while an action of it runs, and unstarted before its first
abbrev pub is_in_flight : ℕ → Plan → Bool
is_in_flight now p = list_any (is_running now) (runs_of p)

abbrev pub is_unstarted : ℕ → Plan → Bool
is_unstarted now p = nat_lt now (point p 0)

abbrev pub is_to_tray : Goal → Bool
is_to_tray (Tray t) = true
is_to_tray Purge = false

-- a whole plan to its tray
abbrev pub is_tray_plan : Plan → Bool
is_tray_plan p = not (is_front p.kind) && is_to_tray p.goal

-- a copy is entering while the last action of its whole plan to its tray runs
abbrev pub is_last : Plan → Run → Bool
is_last p run = run.number == length p.acts

abbrev pub is_entering : ℕ → Plan → Bool
is_entering now p = is_tray_plan p && list_any (λ run. is_running now run && is_last p run) (runs_of p)

-- whether the action uses the module
abbrev pub uses_in : Machine → ℕ → Option Action → Bool
uses_in machine m None = false
uses_in machine m (Some a) = uses_module machine a m

abbrev pub does_use : Machine → ℕ → ActId → Bool
does_use machine m act = uses_in machine m (action_at machine act.0)

-- the running action uses the module; one that has not started does
abbrev pub is_running_on : Machine → ℕ → ℕ → Plan → Bool
is_running_on machine now m p = list_any (λ run. is_running now run && does_use machine m run.act) (runs_of p)

abbrev pub is_to_run_on : Machine → ℕ → ℕ → Plan → Bool
is_to_run_on machine now m p = list_any (λ run. not (is_started now run) && does_use machine m run.act) (runs_of p)

-- what is left of a plan that is cut: the front that ends with the running action
abbrev pub started_count : ℕ → Plan → ℕ
started_count now p = count_by (is_started now) (runs_of p)

abbrev pub front_of : ℕ → Plan → Plan
front_of now p = cut_to (started_count now p) p

-- the released actions that have not started: they are taken back where a plan is cut or goes
abbrev pub is_recalled : ℕ → Plan → Run → Bool
is_recalled now p run = nat_le run.number p.released && not (is_started now run)

abbrev pub recalled : ℕ → Plan → List Run
recalled now p = filter (is_recalled now p) (runs_of p)

-- the unreleased actions that start at the tick or before, and the plan after their release
abbrev pub is_due : ℕ → Plan → Run → Bool
is_due last p run = nat_lt p.released run.number && nat_le run.start last

abbrev pub due_until : ℕ → Plan → List Run
due_until last p = filter (is_due last p) (runs_of p)

abbrev pub release_until : ℕ → Plan → Plan
release_until last p = record p { released = p.released + length (due_until last p) }
