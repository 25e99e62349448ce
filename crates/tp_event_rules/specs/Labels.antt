-- What records call copies, locations, actions and modules.
use Rattle.std.specs.Prelude.{ℕ, List, [], ◌∷◌, slice_get, Option, Some, None}
use Rattle.tp_machine.specs.Rules.{name_in}
use Rattle.tp_machine.specs.ModuleUse.{action_at}
use Rattle.tp_machine.specs.declared.parts.ActId.{ActId}
use Rattle.tp_machine.specs.declared.parts.Action.{Action}
use Rattle.tp_machine.specs.declared.parts.LocId.{LocId}
use Rattle.tp_machine.specs.declared.parts.ModId.{ModId}
use Rattle.tp_machine.specs.declared.machine.Machine.{Machine}
use Rattle.tp_schedule.specs.declared.parts.Goal.{Goal}
use Rattle.tp_schedule.specs.declared.parts.Goal.TheVariants.{Tray, Purge}
use Rattle.tp_schedule.specs.declared.parts.Plan.{Plan}
use Rattle.tp_schedule.specs.declared.parts.SheetId.{SheetId}
use Rattle.tp_schedule.specs.declared.records.SheetName.{SheetName}
use Rattle.tp_jobs.specs.declared.parts.Job.{Job}

-- a job's name, and a copy by it
abbrev pub job_name_in : Option Job → List ℕ
job_name_in None = []
job_name_in (Some j) = j.name

abbrev pub job_name : List Job → ℕ → List ℕ
job_name jobs job = job_name_in (slice_get jobs job)

abbrev pub label_by : List ℕ → SheetId → SheetName
label_by name copy = record { job = name; number = copy.number; copy = copy.copy }

abbrev pub label : List Job → SheetId → SheetName
label jobs copy = label_by (job_name jobs copy.job) copy

abbrev pub location_name : Machine → LocId → List ℕ
location_name machine l = name_in (slice_get machine.locations l.0)

abbrev pub module_name : Machine → ModId → List ℕ
module_name machine m = name_in (slice_get machine.modules m.0)

abbrev pub action_name_in : Option Action → List ℕ
action_name_in None = []
action_name_in (Some a) = a.name

abbrev pub action_name : Machine → ActId → List ℕ
action_name machine act = action_name_in (action_at machine act.0)

-- the tray's name, or none for a purge
abbrev pub goal_name : Machine → Goal → Option (List ℕ)
goal_name machine (Tray t) = Some (location_name machine t)
goal_name machine Purge = None

-- the location where a plan ends
abbrev pub to_in : Option Action → LocId
to_in None = record { 0 = 0 }
to_in (Some a) = a.to

abbrev pub last_of : List ActId → ActId
last_of [] = record { 0 = 0 }
last_of (a ∷ []) = a
last_of (a ∷ b ∷ acts) = last_of (b ∷ acts)

abbrev pub end_location : Machine → Plan → LocId
end_location machine p = to_in (action_at machine (last_of p.acts).0)
