-- The plan that a record tells of an asked copy.
use Rattle.std.specs.Prelude.{◌≡◌, ◌≢◌, ℕ, ◌⊎◌, List, ◌++◌, map, drop, length, ◌+◌, ◌<◌, ◌≤◌, slice_index, Option, Some, None, All}
use Rattle.tp_machine.specs.declared.machine.Machine.{Machine}
use Rattle.tp_machine.specs.declared.parts.ActId.{ActId}
use Rattle.tp_schedule.specs.Answers.{AnswersAsk, acts_in, kept_of}
use Rattle.tp_schedule.specs.Limits.{most_acts}
use Rattle.tp_schedule.specs.Plans.{IsFormed, IsTimedPlan, end_of_plan}
use Rattle.tp_schedule.specs.declared.parts.Ask.{Ask}
use Rattle.tp_schedule.specs.declared.parts.Kind.TheVariants.{Whole}
use Rattle.tp_schedule.specs.declared.parts.Plan.{Plan}
use Rattle.tp_schedule.specs.declared.records.Record.{Record}
use Rattle.tp_event_rules.specs.AnswerRecords.{told_of_plan}
use Rattle.tp_event_rules.specs.Labels.{action_name}
use Rattle.tp_event_records.specs.RecordNames.{IsKnown}
use Rattle.tp_schedule_check.specs.Faults.{IsGoodPlan}

-- the actions are the machine's, and these are their names
pub record HaveNames (machine : Machine) (names : List (List ℕ)) (acts : List ActId) : Type 0 where
  pub known : All (IsKnown machine) acts
  pub named : map (action_name machine) acts ≡ names

-- the points of a plan: those of the copy's front, and all but the first of the new ones, at which the front ends
abbrev pub points_behind : Option Plan → List ℕ → List ℕ
points_behind None points = points
points_behind (Some front) points = front.points ++ drop 1 points

-- the first of the new points is the front's end
abbrev pub IsJoined : Option Plan → List ℕ → Type 0
IsJoined None points = Unit {0}
IsJoined (Some front) points = slice_index points 0 ≡ end_of_plan front

-- new actions and points that fit the front: at most 64 actions in all, at least one new one, one point more than new
-- actions, and joined
pub record DoFit (front : Option Plan) (points : List ℕ) (names : List (List ℕ)) : Type 0 where
  pub at_most : length (acts_in front) + length names ≤ most_acts
  pub names_some : 0 < length names
  pub one_more : length points ≡ length names + 1
  pub joined : IsJoined front points

-- no new actions, or not one point more than new actions
abbrev pub AreMismatched : List ℕ → List (List ℕ) → Type 0
AreMismatched points names = (length names ≡ 0) ⊎ (length points ≢ length names + 1)

-- the plan of the asked copy with these actions, and these new points
abbrev pub plan_with : Ask → Option Plan → List ActId → List ℕ → Plan
plan_with ask front acts points = record {
  sheet = ask.sheet;
  name = ask.name;
  want = ask.want;
  goal = ask.goal;
  kind = Whole;
  acts = acts;
  points = points_behind front points;
  released = kept_of ask;
}

-- the record tells this plan, which answers the ask and keeps its front
pub record IsToldPlan (machine : Machine) (plans : List Plan) (ask : Ask) (told : Record) (p : Plan) : Type 0 where
  pub formed : IsFormed p
  pub good : IsGoodPlan machine plans ask p
  pub is : told_of_plan machine (kept_of ask) p ≡ told

-- the record tells this plan, which answers the ask whatever its points are
pub record IsInForm (machine : Machine) (plans : List Plan) (ask : Ask) (told : Record) (p : Plan) : Type 0 where
  pub formed : IsFormed p
  pub answers : AnswersAsk machine plans ask p
  pub is : told_of_plan machine (kept_of ask) p ≡ told

-- it tells none
abbrev pub TellsNoForm : Machine → List Plan → Ask → Record → Type 0
TellsNoForm machine plans ask told = (p : Plan) → IsInForm machine plans ask told p → ⊥

-- it tells no plan that answers the ask, keeps its front, and is a timed one
abbrev pub TellsNoPlan : Machine → List Plan → Ask → Record → Type 0
TellsNoPlan machine plans ask told = (q : Plan) → IsTimedPlan machine q → IsToldPlan machine plans ask told q → ⊥

-- it tells this one, and no other that is a timed one
pub record IsOnlyPlan (machine : Machine) (plans : List Plan) (ask : Ask) (told : Record) (p : Plan) : Type 0 where
  pub told_plan : IsToldPlan machine plans ask told p
  pub only : (q : Plan) → IsTimedPlan machine q → IsToldPlan machine plans ask told q → q ≡ p
