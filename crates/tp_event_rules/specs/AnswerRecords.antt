-- What is reported of an answer to an ask, and of points that moved.
use Rattle.std.specs.Prelude.{ℕ, List, [], ◌∷◌, ◌++◌, map, drop, Option, Some, None, if◌then◌else◌}
use Rattle.std.specs.Str.{bytes_eq}
use Rattle.tp_machine.specs.declared.machine.Machine.{Machine}
use Rattle.tp_schedule.specs.Plans.{plan_of, without}
use Rattle.tp_schedule.specs.Answers.{kept_of}
use Rattle.tp_schedule.specs.declared.parts.Ask.{Ask}
use Rattle.tp_schedule.specs.declared.parts.Plan.{Plan}
use Rattle.tp_schedule.specs.declared.parts.Reply.{Reply}
use Rattle.tp_schedule.specs.declared.parts.Reply.TheVariants.{Planned, Never, Spent}
use Rattle.tp_schedule.specs.declared.records.Record.{Record}
use Rattle.tp_schedule.specs.declared.records.Record.TheVariants.{Plan as TellsPlan, Move, Never as TellsNever, Budget}
use Rattle.tp_schedule.specs.declared.records.SheetName.{SheetName}
use Rattle.tp_event_rules.specs.Labels.{label_by, location_name, action_name, end_location, goal_name}

-- an answer to an ask, and the schedule after it
pub record Answer : Type 0 where
  pub reply : Reply
  pub plans : List Plan

abbrev pub label_of_plan : Plan → SheetName
label_of_plan p = label_by p.name p.sheet

abbrev pub label_of_asked : Ask → SheetName
label_of_asked ask = label_by ask.name ask.sheet

-- a plan without the actions that were kept: its first point is their end
abbrev pub told_of_plan : Machine → ℕ → Plan → Record
told_of_plan machine kept p =
    TellsPlan (label_of_plan p) (location_name machine (end_location machine p)) (drop kept p.points) (map (action_name machine) (drop kept p.acts))

abbrev pub told_of_planned : Machine → ℕ → Option Plan → List Record
told_of_planned machine kept None = []
told_of_planned machine kept (Some p) = told_of_plan machine kept p ∷ []

-- all points of a plan that changed, by the plan before and after
abbrev pub told_of_move : Plan → Plan → List Record
told_of_move before after = if bytes_eq before.points after.points then [] else (Move (label_of_plan after) after.points ∷ [])

-- the plans whose points changed, in the order of copies
abbrev pub moves : List Plan → List Plan → List Record
moves [] plans' = []
moves (p ∷ plans) [] = []
moves (p ∷ plans) (p' ∷ plans') = told_of_move p p' ++ moves plans plans'

-- the plan, and the other plans that moved; or that there is none; or that the budget was spent
abbrev pub told_of_reply : Machine → List Plan → Ask → Reply → List Plan → List Record
told_of_reply machine plans ask Planned plans' =
    told_of_planned machine (kept_of ask) (plan_of ask.sheet plans') ++ moves (without ask.sheet plans) (without ask.sheet plans')
told_of_reply machine plans ask Never plans' = TellsNever (label_of_asked ask) (goal_name machine ask.goal) ∷ []
told_of_reply machine plans ask (Spent bound) plans' = Budget (label_of_asked ask) (goal_name machine ask.goal) bound ∷ []
