-- The same of one plan or one copy that waits, as tests.
use Rattle.std.specs.Prelude.{ℕ, ◌-◌, Bool, not, ◌&&◌, ◌||◌, nat_le, nat_lt, List, length}
use Rattle.std.specs.List.{list_all}
use Rattle.tp_machine.specs.declared.machine.Machine.{Machine}
use Rattle.tp_schedule.specs.Plans.{is_before, is_same_copy, point}
use Rattle.tp_schedule.specs.declared.parts.Plan.{Plan}
use Rattle.tp_schedule.specs.declared.parts.SheetId.{SheetId}
use Rattle.tp_jobs.specs.JobRefusals.{has_media}
use Rattle.tp_jobs.specs.declared.parts.Job.{Job}
use Rattle.tp_jobs.specs.declared.parts.WaitingCopy.{WaitingCopy}
use Rattle.tp_jobs.specs.declared.standing.Standing.{Standing}
use Rattle.tp_event_rules.specs.StateInvariants.{is_planned_among, is_same_sheet}
use Rattle.tp_event_rules.specs.Lines.{is_job_broken, is_same_line}
use Rattle.tp_event_rules.specs.Moments.{is_tray_plan}

unfoldable pub can_wait : Machine → Standing → WaitingCopy → Bool
can_wait machine t w = has_media machine w.want.media && not (is_planned_among t.plans w.sheet) && not (is_job_broken t.jobs w.sheet.job)

-- a plan that is no whole plan to its tray is older than the copy, where both are of one sheet
unfoldable pub is_older_than : SheetId → Plan → Bool
is_older_than copy p = is_tray_plan p || not (is_same_sheet p.sheet copy) || nat_lt p.sheet.copy copy.copy

-- no plan of the same sheet is newer that is no whole plan to its tray
abbrev pub is_newest : List Plan → SheetId → Bool
is_newest plans copy = list_all (is_older_than copy) plans

-- no whole plan to its tray is of the same sheet
unfoldable pub is_of_other : SheetId → Plan → Bool
is_of_other copy p = not (is_tray_plan p) || not (is_same_sheet copy p.sheet)

-- no whole plan to its tray is of another copy of the sheet
unfoldable pub is_single : SheetId → Plan → Bool
is_single copy p = not (is_tray_plan p) || not (is_same_sheet copy p.sheet) || is_same_copy copy p.sheet

-- the copy stands behind a whole plan to its tray, where both are of one line
unfoldable pub stands_behind : List Job → SheetId → Plan → Bool
stands_behind jobs copy p = not (is_tray_plan p) || not (is_same_line jobs copy p.sheet) || is_before p.sheet copy

-- a copy that waits is the one open copy of its sheet and the newest, and stands behind the plans of its line
unfoldable pub is_waiting_kept : Standing → WaitingCopy → Bool
is_waiting_kept t w = list_all (is_of_other w.sheet) t.plans && is_newest t.plans w.sheet && list_all (stands_behind t.jobs w.sheet) t.plans

-- a whole plan to its tray is the only one of its sheet, and of the newest copy of it, and where its job is broken it has entered
unfoldable pub is_plan_kept : Standing → Plan → Bool
is_plan_kept t p =
    not (is_tray_plan p) || (list_all (is_single p.sheet) t.plans && is_newest t.plans p.sheet && (not (is_job_broken t.jobs p.sheet.job) || nat_le (point p (length p.acts - 1)) t.now))
