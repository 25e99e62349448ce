-- The phase of asks: the copies that wait are asked in their order.
use Rattle.std.specs.Prelude.{◌≡◌, ℕ, Bool, ◌==◌, nat_le, List, [], ◌∷◌, ◌++◌}
use Rattle.std.specs.Bool.{MatchBool}
use Rattle.std.specs.List.{list_any}
use Rattle.tp_machine.specs.declared.machine.Machine.{Machine}
use Rattle.tp_schedule.specs.Limits.{most_live}
use Rattle.tp_schedule.specs.LivePlans.{live_count}
use Rattle.tp_schedule.specs.PlannerAnswers.Deed.{replied}
use Rattle.tp_schedule.specs.declared.parts.Ask.{Ask}
use Rattle.tp_schedule.specs.declared.parts.Goal.TheVariants.{Tray}
use Rattle.tp_schedule.specs.declared.parts.Origin.TheVariants.{Feeder as FromFeeder}
use Rattle.tp_schedule.specs.declared.parts.Plan.{Plan}
use Rattle.tp_schedule.specs.declared.parts.Reply.{Reply}
use Rattle.tp_schedule.specs.declared.parts.Reply.TheVariants.{Planned, Never, Spent}
use Rattle.tp_schedule.specs.declared.records.Record.{Record}
use Rattle.tp_schedule.specs.declared.records.Record.TheVariants.{FullUp}
use Rattle.tp_stock.specs.Stock.{empties}
use Rattle.tp_jobs.specs.declared.parts.WaitingCopy.{WaitingCopy}
use Rattle.tp_jobs.specs.Backlogs.{tray_of}
use Rattle.tp_jobs.specs.WaitingCopies.{without_waiting}
use Rattle.tp_event_rules.specs.States.{SessionState}
use Rattle.tp_event_rules.specs.Labels.{job_name, label}
use Rattle.tp_event_rules.specs.AnswerRecords.{told_of_reply}
use Rattle.tp_event_rules.specs.Planners.{PlannerSteps}

abbrev pub is_full : Machine → SessionState → Bool
is_full machine s = nat_le most_live (live_count machine s.now s.plans)

-- the ask for a copy that waits: no feeder that is empty then is a start of it
abbrev pub ask_waiting : Machine → SessionState → WaitingCopy → Ask
ask_waiting machine s w = record {
  sheet = w.sheet;
  name = job_name s.jobs w.sheet.job;
  want = w.want;
  goal = Tray (tray_of s.jobs w.sheet);
  origin = FromFeeder;
  outs = s.outs;
  empty = empties machine s.refills s.plans;
  now = s.now;
}

-- the trays whose lines are passed over from now on
abbrev pub passed_after : Reply → ℕ → List ℕ → List ℕ
passed_after Planned tray passed = passed
passed_after Never tray passed = tray ∷ passed
passed_after (Spent bound) tray passed = tray ∷ passed

abbrev pub is_passed_over : SessionState → List ℕ → WaitingCopy → Bool
is_passed_over s passed w = list_any (λ t. (tray_of s.jobs w.sheet).0 == t) passed

-- a copy that is planned waits no more
abbrev pub state_after_reply : SessionState → WaitingCopy → Reply → List Plan → SessionState
state_after_reply s w Planned plans = record s { plans = plans; waiting = without_waiting w.sheet s.waiting }
state_after_reply s w Never plans = s
state_after_reply s w (Spent bound) plans = s

module _ {P : Type 0} (planner_steps : PlannerSteps P) (machine : Machine) where
  -- the copies are taken in turn; a copy whose line was refused before is passed over; one that finds too many copies
  -- live is reported full; any other is asked
  abbrev pub AsksInTurn : List WaitingCopy → List ℕ → SessionState → P → List Record → SessionState → P → Type 0
  AsksInTurn [] passed s planner records s' planner' = (records ≡ []) × (s' ≡ s) × (planner' ≡ planner)
  AsksInTurn (w ∷ waiting) passed s planner records s' planner' =
      MatchBool (is_passed_over s passed w)
      (AsksInTurn waiting passed s planner records s' planner')
      (MatchBool (is_full machine s)
      ((rest : List Record) × (records ≡ FullUp (label s.jobs w.sheet) ∷ rest)
      × AsksInTurn waiting ((tray_of s.jobs w.sheet).0 ∷ passed) s planner rest s' planner')
      ((reply : Reply) × ((plans : List Plan) × ((mid : P) × ((rest : List Record)
      × planner_steps.does planner s.plans (replied (ask_waiting machine s w) reply) plans mid
      × (records ≡ told_of_reply machine s.plans (ask_waiting machine s w) reply plans ++ rest)
      × AsksInTurn waiting (passed_after reply (tray_of s.jobs w.sheet).0 passed) (state_after_reply s w reply plans) mid rest s' planner')))))

  abbrev pub Asks : SessionState → P → List Record → SessionState → P → Type 0
  Asks s = AsksInTurn s.waiting [] s
