-- The value of JSON that is written for a machine's text and a standing.
use Rattle.std.specs.Prelude.{ℕ, suc, Bool, true, not, ◌&&◌, nat_lt, if◌then◌else◌, List, [], ◌∷◌, ◌++◌, length, map, Option, Some, None, codes}
use Rattle.std.specs.List.{list_all}
use Rattle.serde_json.specs.Data.{Data, null, boolean, number, unsigned, string, array, object, no_members, member}
use Rattle.serde_json.specs.View.{items_of}
use Rattle.tp_machine.specs.ModuleUse.{is_out}
use Rattle.tp_machine.specs.declared.machine.Machine.{Machine}
use Rattle.tp_machine.specs.declared.parts.ActId.{ActId}
use Rattle.tp_machine.specs.declared.parts.Outs.{Outs}
use Rattle.tp_machine.specs.declared.parts.Sheet.{Sheet}
use Rattle.tp_schedule.specs.Plans.{is_front}
use Rattle.tp_schedule.specs.declared.parts.Goal.{Goal}
use Rattle.tp_schedule.specs.declared.parts.Goal.TheVariants.{Tray, Purge}
use Rattle.tp_schedule.specs.declared.parts.Plan.{Plan}
use Rattle.tp_schedule.specs.declared.parts.SheetId.{SheetId}
use Rattle.tp_script.specs.Form.{GroupForm}
use Rattle.tp_script.specs.Script.{spec_text}
use Rattle.tp_bounds.specs.Sheets.{sheet_text}
use Rattle.tp_jobs.specs.declared.parts.Job.{Job}
use Rattle.tp_jobs.specs.declared.parts.WaitingCopy.{WaitingCopy}
use Rattle.tp_jobs.specs.declared.standing.Standing.{Standing}
use Rattle.tp_event_rules.specs.Labels.{action_name, job_name, label_by, location_name}

abbrev pub whole_data : ℕ → Data
whole_data n = number (unsigned n)

abbrev pub texts : List (List ℕ) → Data
texts names = array (items_of (map string names))

-- an array of what each of the items is written as
abbrev pub list_data : {A : Type 0} → (A → Data) → List A → Data
list_data data_of xs = array (items_of (map data_of xs))

abbrev pub job_data : Machine → Job → Data
job_data machine j =
    object (member (codes "broken") (boolean j.broken)
    (member (codes "name") (string j.name)
    (member (codes "tray") (string (location_name machine j.tray)) no_members)))

-- a copy by the name of its job: `NAME.NUMBER.NUMBER`
abbrev pub copy_data : List ℕ → SheetId → Data
copy_data name copy = string (sheet_text (label_by name copy))

-- one sheet as a script writes it
abbrev pub one_sheet : Sheet → GroupForm
one_sheet want = record { count = 1; front = want.front; back = want.back; face = want.face }

-- the media, a space, and what is wanted of the sides
abbrev pub want_text : Sheet → List ℕ
want_text want = want.media ++ 32 ∷ spec_text (one_sheet want)

abbrev pub want_data : Sheet → Data
want_data want = string (want_text want)

abbrev pub wait_data : List Job → WaitingCopy → Data
wait_data jobs w =
    object (member (codes "sheet") (copy_data (job_name jobs w.sheet.job) w.sheet)
    (member (codes "want") (want_data w.want) no_members))

abbrev pub goal_data : Machine → Goal → Data
goal_data machine (Tray tray) = string (location_name machine tray)
goal_data machine Purge = null

abbrev pub act_data : Machine → ActId → Data
act_data machine act = string (action_name machine act)

unfoldable pub plan_data : Machine → Plan → Data
plan_data machine p =
    object (member (codes "acts") (array (items_of (map (act_data machine) p.acts)))
    (member (codes "goal") (goal_data machine p.goal)
    (member (codes "points") (array (items_of (map whole_data p.points)))
    (member (codes "sheet") (copy_data p.name p.sheet)
    (member (codes "want") (want_data p.want)
    (member (codes "whole") (boolean (not (is_front p.kind))) no_members))))))

-- what is free at a feeder: nothing is given of an endless one
abbrev pub stock_data : Option ℕ → Data
stock_data None = null
stock_data (Some n) = whole_data n

-- the names of the modules that are out, of those from number n on
abbrev pub out_names : Outs → ℕ → List (List ℕ) → List (List ℕ)
out_names outs n [] = []
out_names outs n (name ∷ names) = if is_out outs n then name ∷ out_names outs (suc n) names else out_names outs (suc n) names

-- ---- what has a name: a location, an action and a goal that the machine knows, and a job that is one of so many

abbrev pub has_location : Machine → Job → Bool
has_location machine j = nat_lt j.tray.0 (length machine.locations)

abbrev pub is_action : Machine → ActId → Bool
is_action machine act = nat_lt act.0 (length machine.actions)

abbrev pub is_of_jobs : ℕ → WaitingCopy → Bool
is_of_jobs jobs w = nat_lt w.sheet.job jobs

abbrev pub is_goal_known : Machine → Goal → Bool
is_goal_known machine (Tray tray) = nat_lt tray.0 (length machine.locations)
is_goal_known machine Purge = true

unfoldable pub is_plan_known : Machine → Plan → Bool
is_plan_known machine p = is_goal_known machine p.goal && list_all (is_action machine) p.acts

unfoldable pub snapshot_data : List ℕ → Machine → Standing → Data
snapshot_data text machine t =
    object (member (codes "format") (whole_data 1)
    (member (codes "jobs") (array (items_of (map (job_data machine) t.jobs)))
    (member (codes "machine") (string text)
    (member (codes "now") (whole_data t.now)
    (member (codes "out") (texts (out_names t.outs 0 machine.modules))
    (member (codes "plans") (array (items_of (map (plan_data machine) t.plans)))
    (member (codes "stock") (array (items_of (map stock_data t.stock)))
    (member (codes "waiting") (array (items_of (map (wait_data t.jobs) t.waiting))) no_members))))))))
