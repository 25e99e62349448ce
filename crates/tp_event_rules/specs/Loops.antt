-- The loop over loose copies: which ask is due, and what an answer to it leads to.
use Rattle.std.specs.Prelude.{ℕ, ◌+◌, true, not, ◌&&◌, Bool, List, [], ◌∷◌, length, map, find, unwrap_or, option_map, Option, Some, None}
use Rattle.tp_machine.specs.ModuleUse.{action_at}
use Rattle.tp_machine.specs.declared.parts.ActId.{ActId}
use Rattle.tp_machine.specs.declared.parts.Action.{Action}
use Rattle.tp_machine.specs.declared.parts.LocId.{LocId}
use Rattle.tp_machine.specs.declared.parts.ModId.{ModId}
use Rattle.tp_machine.specs.declared.parts.State.{State}
use Rattle.tp_machine.specs.declared.machine.Machine.{Machine}
use Rattle.tp_schedule.specs.LocationSets.{nowhere}
use Rattle.tp_schedule.specs.Answers.{kept_acts}
use Rattle.tp_schedule.specs.PlannerAnswers.{Due}
use Rattle.tp_schedule.specs.PlannerAnswers.Due.{asking, settling}
use Rattle.tp_schedule.specs.Plans.{end_of_plan, is_front, plan_of, change_plan}
use Rattle.tp_schedule.specs.Routes.{walk, fresh}
use Rattle.tp_schedule.specs.declared.parts.Ask.{Ask}
use Rattle.tp_schedule.specs.declared.parts.Goal.{Goal}
use Rattle.tp_schedule.specs.declared.parts.Goal.TheVariants.{Tray, Purge as ToPurge}
use Rattle.tp_schedule.specs.declared.parts.Origin.TheVariants.{Front as FromFront}
use Rattle.tp_schedule.specs.declared.parts.Plan.{Plan}
use Rattle.tp_schedule.specs.declared.parts.Reply.{Reply}
use Rattle.tp_schedule.specs.declared.parts.Reply.TheVariants.{Planned, Never, Spent}
use Rattle.tp_schedule.specs.declared.records.Record.{Record}
use Rattle.tp_schedule.specs.declared.records.Record.TheVariants.{Purge, Stuck}
use Rattle.tp_jobs.specs.declared.parts.Job.{Job}
use Rattle.tp_event_rules.specs.States.{SessionState, Outcome, nothing_told, told_before, for_each}
use Rattle.tp_event_rules.specs.Lines.{is_lost}
use Rattle.tp_event_rules.specs.Labels.{label, last_of, module_name}
use Rattle.tp_event_rules.specs.Moments.{due_until, release_until}
use Rattle.tp_event_rules.specs.Clock.{release_of, record_of}
use Rattle.tp_event_rules.specs.Fates.{to_purge}
use Rattle.tp_event_rules.specs.FallBacks.{fall_back}
use Rattle.tp_event_rules.specs.Outages.{outage}
use Rattle.tp_event_rules.specs.AnswerRecords.{Answer, told_of_reply}

-- a loose copy has a front and is not lost
abbrev pub is_loose : SessionState → Plan → Bool
is_loose s p = is_front p.kind && not (is_lost s p)

-- the state of a sheet after the actions of its plan, the first of which starts at its feeder
abbrev pub from_in : Option Action → LocId
from_in None = record { 0 = 0 }
from_in (Some a) = a.from

abbrev pub first_location : Machine → List ActId → LocId
first_location machine [] = record { 0 = 0 }
first_location machine (act ∷ acts) = from_in (action_at machine act.0)

abbrev pub start_of : Machine → Plan → State
start_of machine p = fresh (first_location machine p.acts)

abbrev pub state_after : Machine → Plan → State
state_after machine p = unwrap_or (walk machine p.want p.acts (start_of machine p)) (start_of machine p)

-- the ask for a copy in flight whose plan is a front
abbrev pub ask_in_flight : Machine → SessionState → Plan → Ask
ask_in_flight machine s p = record {
  sheet = p.sheet;
  name = p.name;
  want = p.want;
  goal = p.goal;
  origin = FromFront (state_after machine p) (end_of_plan p) (length p.acts);
  outs = s.outs;
  empty = nowhere;
  now = s.now;
}

-- the first loose copy is asked. Where none is loose, the settling is due
abbrev pub next_ask : Machine → SessionState → Option Ask
next_ask machine s = option_map (ask_in_flight machine s) (find (is_loose s) s.plans)

abbrev pub due_by : ℕ → Option Ask → Due
due_by now None = settling now
due_by now (Some ask) = asking ask

abbrev pub due : Machine → SessionState → Due
due machine s = due_by s.now (next_ask machine s)

-- Planned: the copy's actions with a start at most now + lead are released.

abbrev pub told_releases : Machine → List Job → ℕ → Option Plan → List Record
told_releases machine jobs last None = []
told_releases machine jobs last (Some p) = map (λ run. record_of machine jobs (release_of machine run).tell) (due_until last p)

abbrev pub planned : Machine → Ask → List Plan → SessionState → Outcome
planned machine ask plans s = record {
  records = told_releases machine s.jobs (s.now + machine.lead) (plan_of ask.sheet plans);
  state = record s { plans = change_plan ask.sheet (release_until (s.now + machine.lead)) plans };
}

-- Not planned to its tray: the copy gives the tray up. Its goal is a purge from now on, and it falls back.

abbrev pub gives_tray_up : Ask → SessionState → Outcome
gives_tray_up ask s = told_before (Purge (label s.jobs ask.sheet) ∷ [])
    (fall_back (record s { plans = change_plan ask.sheet to_purge s.plans }) (record { sheet = ask.sheet; want = ask.want; again = true }))

-- Not planned to a purge tray either: the copy is stuck, and the module of its running action jams.

abbrev pub module_in : Option Action → ModId
module_in None = record { 0 = 0 }
module_in (Some a) = a.module

abbrev pub stuck_module : Machine → SessionState → Ask → ModId
stuck_module machine s ask = module_in (action_at machine (last_of (kept_acts ask.sheet s.plans)).0)

abbrev pub gets_stuck : Machine → Ask → SessionState → Outcome
gets_stuck machine ask s = told_before (Stuck (label s.jobs ask.sheet) (module_name machine (stuck_module machine s ask)) ∷ [])
    (outage machine (stuck_module machine s ask).0 true s)

abbrev pub not_planned : Machine → Ask → Goal → SessionState → Outcome
not_planned machine ask (Tray t) s = gives_tray_up ask s
not_planned machine ask ToPurge s = gets_stuck machine ask s

abbrev pub after_reply : Machine → Ask → Reply → List Plan → SessionState → Outcome
after_reply machine ask Planned plans s = planned machine ask plans s
after_reply machine ask Never plans s = not_planned machine ask ask.goal s
after_reply machine ask (Spent bound) plans s = not_planned machine ask ask.goal s

-- what an answer to the ask leads to
abbrev pub after_answer : Machine → SessionState → Ask → Answer → Outcome
after_answer machine s ask a =
    told_before (told_of_reply machine s.plans ask a.reply a.plans) (after_reply machine ask a.reply a.plans s)

abbrev pub after_asked : Machine → SessionState → Option Ask → Answer → Outcome
after_asked machine s None a = nothing_told s
after_asked machine s (Some ask) a = after_answer machine s ask a

abbrev pub after_one : Machine → SessionState → Answer → Outcome
after_one machine s a = after_asked machine s (next_ask machine s) a

-- what the answers lead to, one after another
abbrev pub after_answers : Machine → List Answer → SessionState → Outcome
after_answers machine answers s = for_each (after_one machine) answers s
