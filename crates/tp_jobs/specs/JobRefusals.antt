-- Which jobs are refused, and by which cause: the first that applies.
use Rattle.std.specs.Prelude.{ℕ, ◌+◌, Bool, not, nat_lt, List, sum_by, position, Option, Some, None, Result, Ok, Err, is_some, if◌then◌else◌}
use Rattle.std.specs.List.{list_any}
use Rattle.std.specs.Str.{bytes_eq}
use Rattle.tp_machine.specs.Rules.{is_among}
use Rattle.tp_machine.specs.declared.parts.LocId.{LocId}
use Rattle.tp_machine.specs.declared.machine.Machine.{Machine}
use Rattle.tp_script.specs.Form.{GroupForm}
use Rattle.tp_jobs.specs.Backlogs.{names_of}
use Rattle.tp_jobs.specs.declared.fault.JobFault.{JobFault}
use Rattle.tp_jobs.specs.declared.fault.JobFault.TheVariants.{Memory, UnknownTray, UnknownMedia, TwiceNamed, TooManyWaiting}
use Rattle.tp_jobs.specs.declared.parts.Job.{Job}

-- the most copies that wait as a job is accepted
abbrev pub most_waiting : ℕ
most_waiting = 4096

-- the tray at a location
abbrev pub tray_at : Machine → Option ℕ → Option LocId
tray_at machine None = None
tray_at machine (Some n) = if is_among machine.trays (record { 0 = n }) then Some (record { 0 = n }) else None

-- the tray of this name
abbrev pub tray_named : Machine → List ℕ → Option LocId
tray_named machine name = tray_at machine (position (bytes_eq name) machine.locations)

abbrev pub is_tray_name : Machine → List ℕ → Bool
is_tray_name machine name = is_some (tray_named machine name)

-- a feeder has the media
abbrev pub has_media : Machine → List ℕ → Bool
has_media machine media = list_any (λ f. bytes_eq media f.media) machine.feeders

-- a job has the name
abbrev pub is_taken : List Job → List ℕ → Bool
is_taken jobs name = list_any (bytes_eq name) (names_of jobs)

abbrev pub sheet_count : List GroupForm → ℕ
sheet_count groups = sum_by (λ g. g.count) groups

-- why a job is refused, where these jobs came and so many copies wait
abbrev pub job_fault : Machine → List Job → ℕ → List ℕ → List ℕ → List ℕ → List GroupForm → Option JobFault
job_fault machine jobs waiting name tray media groups =
    if not (is_tray_name machine tray) then Some (UnknownTray tray)
    else (if not (has_media machine media) then Some (UnknownMedia media)
    else (if is_taken jobs name then Some (TwiceNamed name)
    else (if nat_lt most_waiting (waiting + sheet_count groups) then Some (TooManyWaiting waiting (sheet_count groups)) else None)))

-- the refusal in an answer, which want of memory is not
abbrev pub refusal_in : {X : Type 0} → Result X JobFault → Option JobFault
refusal_in (Ok x) = None
refusal_in (Err Memory) = None
refusal_in (Err (UnknownTray name)) = Some (UnknownTray name)
refusal_in (Err (UnknownMedia name)) = Some (UnknownMedia name)
refusal_in (Err (TwiceNamed name)) = Some (TwiceNamed name)
refusal_in (Err (TooManyWaiting waiting asked)) = Some (TooManyWaiting waiting asked)
