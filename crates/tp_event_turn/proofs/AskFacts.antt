-- The ask of a copy that waits, and the schedule after an answer.
use Rattle.std.proofs.Common.{◌≡◌, ℕ, List, slice_get, Option, Some, None, option_map, IsSome, refl, sym, ap, ◌∙◌, subst, All, Contains}
use Rattle.std.specs.Prelude.{IsSomeAnd}
use Rattle.tp_machine.specs.declared.parts.LocId.{LocId}
use Rattle.tp_machine.specs.declared.parts.Sheet.{Sheet}
use Rattle.tp_machine.specs.declared.machine.Machine.{Machine}
use Rattle.tp_schedule.proofs.CopyFacts.{same_copy-is}
use Rattle.tp_stock.specs.Stock.{empties}
use Rattle.tp_schedule.specs.Answers.{IsAskedFrom}
use Rattle.tp_schedule.specs.PlannerAnswers.{CanAsk, IsAnswer}
use Rattle.tp_schedule.specs.Plans.{IsTimedPlan, is_same_copy, plan_of}
use Rattle.tp_schedule.specs.declared.parts.Empties.{Empties}
use Rattle.tp_schedule.specs.declared.parts.Ask.{Ask}
use Rattle.tp_schedule.specs.declared.parts.Goal.TheVariants.{Tray}
use Rattle.tp_schedule.specs.declared.parts.Origin.TheVariants.{Feeder as FromFeeder}
use Rattle.tp_schedule.specs.declared.parts.Plan.{Plan}
use Rattle.tp_schedule.specs.declared.parts.Reply.{Reply}
use Rattle.tp_schedule.specs.declared.parts.Reply.TheVariants.{Planned, Never, Spent}
use Rattle.tp_schedule.specs.declared.parts.SheetId.{SheetId}
use Rattle.tp_jobs.specs.Backlogs.{tray_in}
use Rattle.tp_jobs.specs.WaitingCopies.{find_waiting}
use Rattle.tp_jobs.specs.declared.parts.Job.{Job}
use Rattle.tp_jobs.specs.declared.parts.WaitingCopy.{WaitingCopy}
use Rattle.tp_event_rules.proofs.ListFacts.{find-Some}
use Rattle.tp_event_rules.specs.AskPhase.{ask_waiting}
use Rattle.tp_event_rules.specs.Labels.{job_name_in}
use Rattle.tp_event_rules.specs.States.{SessionState}

-- the copy that is found waits, and is the one that was looked for
pub found-waits : (copy : SheetId) (waiting : List WaitingCopy) (w : WaitingCopy) → find_waiting copy waiting ≡ Some w → Contains waiting w × (w.sheet ≡ copy)
found-waits copy waiting w e =
    let at = find-Some (λ v. is_same_copy v.sheet copy) waiting w e in
    (at.0, same_copy-is w.sheet copy at.1)

pub name-is : (o : Option Job) (name : List ℕ) → IsSomeAnd o (λ j. j.name ≡ name) → job_name_in o ≡ name
name-is None name none = absurd none
name-is (Some j) name is = is

pub tray-is : (o : Option Job) (tray : LocId) → IsSomeAnd o (λ j. j.tray ≡ tray) → tray_in o ≡ tray
tray-is None tray none = absurd none
tray-is (Some j) tray is = is

pub ask-made : (machine : Machine) (s : SessionState) (copy : SheetId) (name : List ℕ) (want : Sheet) (tray : LocId) (empty : Empties) → empty ≡ empties machine s.refills s.plans → IsSome (find_waiting copy s.waiting)
    → IsSomeAnd (slice_get s.jobs copy.job) (λ j. j.name ≡ name) → option_map (λ w. w.want) (find_waiting copy s.waiting) ≡ Some want → IsSomeAnd (slice_get s.jobs copy.job) (λ j. j.tray ≡ tray)
    → IsSomeAnd (find_waiting copy s.waiting) (λ w. record { sheet = copy; name = name; want = want; goal = Tray tray; origin = FromFeeder; outs = s.outs; empty = empty; now = s.now } ≡ ask_waiting machine s w)
ask-made machine s copy name want tray empty none waits named wanted goes = go (find_waiting copy s.waiting) refl waits wanted where
  go : (o : Option WaitingCopy) → find_waiting copy s.waiting ≡ o → IsSome o → option_map (λ w. w.want) o ≡ Some want
      → IsSomeAnd o (λ w. record { sheet = copy; name = name; want = want; goal = Tray tray; origin = FromFeeder; outs = s.outs; empty = empty; now = s.now } ≡ ask_waiting machine s w)
  go None e is has = absurd (cc)
  go (Some w) e is has =
      let sheet = (found-waits copy s.waiting w e).1 in
      let want-is : w.want ≡ want = cc in
      let name-at : job_name_in (slice_get s.jobs w.sheet.job) ≡ name = ap (λ (c : SheetId). job_name_in (slice_get s.jobs c.job)) sheet ∙ name-is (slice_get s.jobs copy.job) name named in
      let tray-at : tray_in (slice_get s.jobs w.sheet.job) ≡ tray = ap (λ (c : SheetId). tray_in (slice_get s.jobs c.job)) sheet ∙ tray-is (slice_get s.jobs copy.job) tray goes in
      (λ k. record { sheet = sym sheet k; name = sym name-at k; want = sym want-is k; goal = Tray (sym tray-at k); origin = FromFeeder; outs = s.outs; empty = none k; now = s.now })

-- the plans are plans in time after an answer where they were before
pub timed-after : (spent : Machine → List Plan → Ask → ℕ → Type 0) (machine : Machine) (plans : List Plan) (ask : Ask) (reply : Reply) (plans' : List Plan)
    → IsAnswer spent machine plans ask reply plans' → All (IsTimedPlan machine) plans → All (IsTimedPlan machine) plans'
timed-after spent machine plans ask Planned plans' answer timed = answer.0.alternative.legal.timed
timed-after spent machine plans ask Never plans' answer timed = subst (All (IsTimedPlan machine)) (sym answer.0) timed
timed-after spent machine plans ask (Spent bound) plans' answer timed = subst (All (IsTimedPlan machine)) (sym answer.0) timed

-- a copy that is asked from a feeder has no plan
pub new-copy : (machine : Machine) (plans : List Plan) (ask : Ask) → CanAsk machine plans ask → ask.origin ≡ FromFeeder → plan_of ask.sheet plans ≡ None
new-copy machine plans ask can new = subst (IsAskedFrom machine plans ask) new can.asked
