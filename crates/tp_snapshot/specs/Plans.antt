-- The plans of a snapshot.
use Rattle.std.specs.Prelude.{ℕ, ◌+◌, Bool, true, false, ◌&&◌, ◌==◌, nat_le, List, length, slice_get, take, Option, Some, None, position, codes, if◌then◌else◌}
use Rattle.std.specs.List.{prefix_len}
use Rattle.std.specs.Str.{bytes_eq}
use Rattle.serde_json.specs.Data.{Data, null}
use Rattle.serde_json.specs.Find.{as_bool}
use Rattle.tp_machine.specs.declared.machine.Machine.{Machine}
use Rattle.tp_machine.specs.declared.parts.ActId.{ActId}
use Rattle.tp_machine.specs.declared.parts.Action.{Action}
use Rattle.tp_machine.specs.declared.parts.LocId.{LocId}
use Rattle.tp_schedule.specs.Limits.{most_acts, most_live, most_plan_points}
use Rattle.tp_schedule.specs.declared.parts.Goal.{Goal}
use Rattle.tp_schedule.specs.declared.parts.Goal.TheVariants.{Tray, Purge}
use Rattle.tp_schedule.specs.declared.parts.Kind.{Kind}
use Rattle.tp_schedule.specs.declared.parts.Kind.TheVariants.{Whole, Front}
use Rattle.tp_schedule.specs.declared.parts.Plan.{Plan}
use Rattle.tp_words.specs.Fields.{◌>>=◌}
use Rattle.tp_jobs.specs.Backlogs.{names_of}
use Rattle.tp_jobs.specs.declared.parts.Job.{Job}
use Rattle.tp_session_standing.specs.Sound.{last_point}
use Rattle.tp_snapshot.specs.declared.course.TimedActs.{TimedActs}
use Rattle.tp_snapshot.specs.declared.course.Owner.{Owner}
use Rattle.tp_snapshot.specs.Copies.{copy_in, want_in}
use Rattle.tp_snapshot.specs.Jobs.{tray_in}
use Rattle.tp_snapshot.specs.Values.{each_of, field_of, has_members, name_in, whole_of}

-- the action of a name
abbrev pub act_at : Option ℕ → Option ActId
act_at None = None
act_at (Some n) = Some (record { 0 = n })

abbrev pub act_named : List Action → List ℕ → Option ActId
act_named actions name = act_at (position (λ a. bytes_eq name a.name) actions)

abbrev pub act_in : Machine → Data → Option ActId
act_in machine d = do
  name ← name_in d
  act_named machine.actions name

-- the job's tray, or null for a purge
abbrev pub goal_of : LocId → Option LocId → Option Goal
goal_of tray None = None
goal_of tray (Some t) = if t.0 == tray.0 then Some (Tray t) else None

abbrev pub goal_in : Machine → LocId → Data → Option Goal
goal_in machine tray null = Some Purge
goal_in machine tray d = goal_of tray (tray_in machine d)

abbrev pub kind_of : Bool → Kind
kind_of true = Whole
kind_of false = Front

-- how many actions count as released: all of a front, and the first few that start by now + lead
abbrev pub released_of : ℕ → Kind → List ℕ → ℕ
released_of by Front starts = length starts
released_of by Whole starts = prefix_len (λ start. nat_le start by) starts

-- 1 to 64 actions, and one point more
abbrev pub is_course : List ActId → List ℕ → Bool
is_course acts points = nat_le 1 (length acts) && (length points == length acts + 1)

unfoldable pub course_of : Machine → Data → Option TimedActs
course_of machine d = do
  acts ← each_of most_acts (codes "acts") (act_in machine) d
  points ← each_of most_plan_points (codes "points") (whole_of last_point) d
  if is_course acts points then Some (record { acts = acts; points = points }) else None

unfoldable pub owner_of : List (List ℕ) → Data → Option Owner
owner_of names d = do
  sheet ← field_of (codes "sheet") (copy_in names) d
  want ← field_of (codes "want") want_in d
  whole ← field_of (codes "whole") as_bool d
  Some (record { sheet = sheet; want = want; whole = whole })

abbrev pub plan_with : ℕ → Job → Owner → TimedActs → Goal → Plan
plan_with by job owner course goal = record {
  sheet = owner.sheet;
  name = job.name;
  want = owner.want;
  goal = goal;
  kind = kind_of owner.whole;
  acts = course.acts;
  points = course.points;
  released = released_of by (kind_of owner.whole) (take (length course.acts) course.points);
}

unfoldable pub plan_from : Machine → ℕ → List Job → Data → Option Plan
plan_from machine now jobs d = do
  owner ← owner_of (names_of jobs) d
  job ← slice_get jobs owner.sheet.job
  course ← course_of machine d
  goal ← field_of (codes "goal") (goal_in machine job.tray) d
  Some (plan_with (now + machine.lead) job owner course goal)

-- an object of `acts`, `goal`, `points`, `sheet`, `want` and `whole`, and nothing else
unfoldable pub plan_of : Machine → ℕ → List Job → Data → Option Plan
plan_of machine now jobs d = if has_members 6 d then plan_from machine now jobs d else None

abbrev pub plans_of : Machine → ℕ → List Job → Data → Option (List Plan)
plans_of machine now jobs d = each_of most_live (codes "plans") (plan_of machine now jobs) d
