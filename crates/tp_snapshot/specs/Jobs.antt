-- The jobs of a snapshot.
use Rattle.std.specs.Prelude.{◌≢◌, List, Option, Some, None, AllPairs, codes, if◌then◌else◌}
use Rattle.serde_json.specs.Data.{Data}
use Rattle.serde_json.specs.Find.{as_bool}
use Rattle.tp_machine.specs.declared.machine.Machine.{Machine}
use Rattle.tp_machine.specs.declared.parts.LocId.{LocId}
use Rattle.tp_words.specs.Fields.{◌>>=◌}
use Rattle.tp_jobs.specs.JobRefusals.{tray_named}
use Rattle.tp_jobs.specs.declared.parts.Job.{Job}
use Rattle.tp_session_standing.specs.Sound.{most_jobs}
use Rattle.tp_snapshot.specs.Values.{each_of, field_of, has_members, name_in}

-- a text that is the name of a tray
abbrev pub tray_in : Machine → Data → Option LocId
tray_in machine d = do
  name ← name_in d
  tray_named machine name

unfoldable pub job_from : Machine → Data → Option Job
job_from machine d = do
  broken ← field_of (codes "broken") as_bool d
  name ← field_of (codes "name") name_in d
  tray ← field_of (codes "tray") (tray_in machine) d
  Some (record { name = name; tray = tray; broken = broken })

-- an object of `broken`, `name` and `tray`, and nothing else
unfoldable pub job_of : Machine → Data → Option Job
job_of machine d = if has_members 3 d then job_from machine d else None

abbrev pub jobs_of : Machine → Data → Option (List Job)
jobs_of machine d = each_of most_jobs (codes "jobs") (job_of machine) d

-- no two jobs have one name
abbrev pub DoNamesDiffer : List Job → Type 0
DoNamesDiffer jobs = AllPairs (λ i j. i.name ≢ j.name) jobs
