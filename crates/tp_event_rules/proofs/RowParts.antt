-- Copies, plans and groups of the rows.
use Rattle.std.proofs.Common.{ℕ, false, List, codes}
use Rattle.tp_machine.specs.declared.parts.ActId.{ActId}
use Rattle.tp_machine.specs.declared.parts.Face.TheVariants.{Front as FrontUp}
use Rattle.tp_machine.specs.declared.parts.Sheet.{Sheet}
use Rattle.tp_machine.specs.declared.parts.Want.TheVariants.{Blank, Mono}
use Rattle.tp_script.specs.Form.{GroupForm}
use Rattle.tp_schedule.specs.declared.parts.Goal.TheVariants.{Tray, Purge as ToPurge}
use Rattle.tp_schedule.specs.declared.parts.Kind.TheVariants.{Whole, Front}
use Rattle.tp_schedule.specs.declared.parts.Plan.{Plan}
use Rattle.tp_schedule.specs.declared.parts.SheetId.{SheetId}
use Rattle.tp_schedule.specs.declared.records.SheetName.{SheetName}
use Rattle.tp_jobs.specs.declared.parts.Job.{Job}
use Rattle.tp_jobs.specs.declared.parts.WaitingCopy.{WaitingCopy}
use Rattle.tp_event_rules.proofs.Machines.{loc}

abbrev pub sheet : ℕ → ℕ → ℕ → SheetId
sheet j n c = record { job = j; number = n; copy = c }

abbrev pub j1 : ℕ → ℕ → SheetName
j1 n c = record { job = codes "j1"; number = n; copy = c }

abbrev pub j2 : ℕ → ℕ → SheetName
j2 n c = record { job = codes "j2"; number = n; copy = c }

abbrev pub group : ℕ → GroupForm
group n = record { count = n; front = Mono; back = Blank; face = FrontUp }

abbrev pub plain : ℕ → GroupForm
plain n = record { count = n; front = Blank; back = Blank; face = FrontUp }

abbrev pub job : List ℕ → ℕ → Job
job name tray = record { name = name; tray = loc tray; broken = false }

abbrev pub waits : SheetId → Sheet → WaitingCopy
waits copy want = record { sheet = copy; want = want }

-- a whole plan to the tray, to a purge tray, and a front with the tray or a purge as goal
abbrev pub whole : SheetId → List ℕ → Sheet → ℕ → List ActId → List ℕ → ℕ → Plan
whole s name want tray acts points released = record {
  sheet = s;
  name = name;
  want = want;
  goal = Tray (loc tray);
  kind = Whole;
  acts = acts;
  points = points;
  released = released;
}

abbrev pub purged : Plan → List ActId → List ℕ → ℕ → Plan
purged p acts points released = record p { goal = ToPurge; acts = acts; points = points; released = released }

abbrev pub front : Plan → List ActId → List ℕ → ℕ → Plan
front p acts points released = record p { kind = Front; acts = acts; points = points; released = released }
