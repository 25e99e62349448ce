-- What records may name, and the points of plans.
use Rattle.std.specs.Prelude.{◌≡◌, ℕ, ◌+◌, ◌<◌, position, Bool, false, List, [], ◌∷◌, length, map, Option, Some, None}
use Rattle.tp_machine.specs.declared.parts.ActId.{ActId}
use Rattle.tp_machine.specs.declared.machine.Machine.{Machine}
use Rattle.tp_schedule.specs.Answers.{kept_of}
use Rattle.tp_schedule.specs.Plans.{is_same_copy, plan_of, without}
use Rattle.tp_schedule.specs.declared.parts.Ask.{Ask}
use Rattle.tp_schedule.specs.declared.parts.Plan.{Plan}
use Rattle.tp_schedule.specs.declared.parts.Reply.{Reply}
use Rattle.tp_schedule.specs.declared.parts.Reply.TheVariants.{Planned, Never, Spent}
use Rattle.tp_schedule.specs.declared.records.Record.{Record}
use Rattle.tp_schedule.specs.declared.records.Record.TheVariants.{Never as TellsNever, Budget}
use Rattle.tp_schedule.specs.declared.parts.SheetId.{SheetId}
use Rattle.tp_event_rules.specs.AnswerRecords.{label_of_asked, told_of_planned}
use Rattle.tp_event_rules.specs.Labels.{goal_name}

-- the action is one of the machine's
abbrev pub IsKnown : Machine → ActId → Type 0
IsKnown machine act = act.0 < length machine.actions

-- the points of each plan
abbrev pub points_of : List Plan → List (List ℕ)
points_of plans = map (λ p. p.points) plans

-- the copy has a plan, and another one stands behind it
abbrev pub IsNotLast : SheetId → List Plan → Type 0
IsNotLast copy plans = (at : ℕ) × (position (λ p. is_same_copy p.sheet copy) plans ≡ Some at) × (at + 1 < length plans)

-- the plan is the copy's, where one is named
abbrev pub is_of : Option SheetId → Plan → Bool
is_of None p = false
is_of (Some copy) p = is_same_copy p.sheet copy

-- the plans but for the copy's, where one is named
abbrev pub others : Option SheetId → List Plan → List Plan
others None plans = plans
others (Some copy) plans = without copy plans

-- what is reported of an answer but for the plans that moved
abbrev pub told_alone : Machine → Ask → Reply → List Plan → List Record
told_alone machine ask Planned plans = told_of_planned machine (kept_of ask) (plan_of ask.sheet plans)
told_alone machine ask Never plans = TellsNever (label_of_asked ask) (goal_name machine ask.goal) ∷ []
told_alone machine ask (Spent bound) plans = Budget (label_of_asked ask) (goal_name machine ask.goal) bound ∷ []
