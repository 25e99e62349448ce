-- Which of the copies that wait is tried next.
use Rattle.std.specs.Prelude.{Bool, true, false, not, ◌&&◌, List, find, slice_index_or, option_map, Option, Some, None}
use Rattle.tp_machine.specs.declared.parts.LocId.{LocId}
use Rattle.tp_schedule.specs.Plans.{is_before}
use Rattle.tp_schedule.specs.declared.parts.SheetId.{SheetId}
use Rattle.tp_jobs.specs.Backlogs.{Backlog, tray_of}
use Rattle.tp_jobs.specs.declared.parts.Job.{Job}
use Rattle.tp_jobs.specs.declared.parts.WaitingCopy.{WaitingCopy}

-- the location is marked
abbrev pub is_blocked : List Bool → LocId → Bool
is_blocked marks loc = slice_index_or marks loc.0 false

-- the copy comes after the one that was tried last, if any was
abbrev pub comes_after : Option SheetId → SheetId → Bool
comes_after None copy = true
comes_after (Some last) copy = is_before last copy

-- the copy's line is not blocked
abbrev pub is_open : List Job → List Bool → WaitingCopy → Bool
is_open jobs marks w = not (is_blocked marks (tray_of jobs w.sheet))

-- the first copy that waits behind the last one tried and whose line is not blocked
abbrev pub next_to_try : Backlog → Option SheetId → List Bool → Option SheetId
next_to_try lines after marks =
    option_map (λ w. w.sheet) (find (λ w. comes_after after w.sheet && is_open lines.jobs marks w) lines.waiting)
