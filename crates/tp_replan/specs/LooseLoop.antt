-- What the loop over loose copies needs of the state, and keeps.
use Rattle.std.specs.Prelude.{◌≡◌, ℕ, ◌+◌, ◌<◌, ◌≤◌, Bool, not, ◌&&◌, List, [], length, count_by, All, Contains, IsTrue}
use Rattle.std.specs.List.{list_any}
use Rattle.tp_machine.specs.declared.machine.Machine.{Machine}
use Rattle.tp_schedule.specs.Limits.{most_live}
use Rattle.tp_schedule.specs.LivePlans.{live_count}
use Rattle.tp_schedule.specs.PlannerAnswers.{CanPlanOn, IsKnownGoal, last_tick}
use Rattle.tp_schedule.specs.Plans.{AreNamed, end_of_plan, goes_to, is_before, is_delivered_to, is_front, is_same_copy, point}
use Rattle.tp_schedule.specs.declared.parts.Plan.{Plan}
use Rattle.tp_schedule.specs.declared.parts.SheetId.{SheetId}
use Rattle.tp_schedule.specs.declared.records.Record.{Record}
use Rattle.tp_event_rules.specs.FallBacks.{is_copy}
use Rattle.tp_event_rules.specs.StateInvariants.{KeepsLines, KeepsPlans}
use Rattle.tp_event_rules.specs.Loops.{is_loose}
use Rattle.tp_event_rules.specs.Moments.{is_to_tray}
use Rattle.tp_event_rules.specs.Seen.{HasNextCopy, HasStarted}
use Rattle.tp_event_rules.specs.States.{SessionState}
use Rattle.tp_replan.specs.Open.{CanFall, most_waiting}

-- all actions of the plan have started, and the last one is running
pub record IsUnderWay (now : ℕ) (p : Plan) : Type 0 where
  pub started : (i : ℕ) → i < length p.acts → point p i ≤ now
  pub runs : now < end_of_plan p

abbrev pub is_lost_in : List SheetId → Plan → Bool
is_lost_in lost p = list_any (is_same_copy p.sheet) lost

abbrev pub is_loose_in : List SheetId → Plan → Bool
is_loose_in lost p = is_front p.kind && not (is_lost_in lost p)

-- the schedule can be planned on, not too many copies are live, plans have their jobs' names and known goals, the last
-- action of each loose copy is running, and later copies of its line are on their way yet
pub record IsOnWay (machine : Machine) (now : ℕ) (plans : List Plan) (lost : List SheetId) : Type 0 where
  pub plan_on : CanPlanOn machine now plans
  pub few_live : live_count machine now plans ≤ most_live
  pub named : AreNamed plans
  pub goals : All (λ p. IsKnownGoal machine p.goal) plans
  pub way : All (λ p. IsTrue (is_loose_in lost p) → IsUnderWay now p) plans
  pub ahead : (p q : Plan) → Contains plans p → Contains plans q → IsTrue (is_loose_in lost p)
      → (tray : ℕ) → IsTrue (goes_to p.goal tray)
      → IsTrue (is_delivered_to q tray) → IsTrue (is_before p.sheet q.sheet) → now < end_of_plan q

-- the loop can go on
pub record CanLoop (machine : Machine) (s : SessionState) : Type 0 where
  pub on_way : IsOnWay machine s.now s.plans s.lost
  pub fall : CanFall s []

-- how far the loop has to go: copies that are not lost, those that are to go to their tray, and loose ones
abbrev pub copies_left : SessionState → ℕ
copies_left s = count_by (is_copy s) s.plans

abbrev pub trays_left : SessionState → ℕ
trays_left s = count_by (λ p. is_copy s p && is_to_tray p.goal) s.plans

abbrev pub loose_left : SessionState → ℕ
loose_left s = count_by (is_loose s) s.plans

-- the state before a module goes out, as far as the loop needs it: what is kept between events of the schedule and of what
-- waits, plans with known goals and the names of their jobs, copies that can have a next one, so few copies that one more can
-- wait, and purges under way
pub record CanBeginLoop (machine : Machine) (s : SessionState) : Type 0 where
  pub now_at_most : s.now ≤ last_tick
  pub plans : KeepsPlans machine s
  pub lines : KeepsLines s
  pub named : AreNamed s.plans
  pub goals : All (λ p. IsKnownGoal machine p.goal) s.plans
  pub next_planned : All (λ p. HasNextCopy p.sheet) s.plans
  pub few : length s.waiting + length s.plans ≤ most_waiting
  pub purges : All (HasStarted s.now) s.plans

-- the notes stay, and what else holds
pub record Stays (notes notes' : List Record) (P : Type 0) : Type 0 where
  pub same : notes' ≡ notes
  pub holds : P
