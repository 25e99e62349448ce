-- What a board writes into a schedule.
use Rattle.std.specs.Prelude.{◌≡◌, ℕ, ◌-◌, ◌<◌, ◌≤◌, Bool, List, [], ◌∷◌, length, filter, flat_map, map, reverse, slice_get, Some, if◌then◌else◌}
use Rattle.std.specs.List.{list_any}
use Rattle.tp_base.specs.Net.{Net, IsLeast}
use Rattle.tp_machine.specs.declared.parts.ActId.{ActId}
use Rattle.tp_machine.specs.declared.parts.State.{State}
use Rattle.tp_machine.specs.declared.machine.Machine.{Machine}
use Rattle.tp_schedule.specs.Choices.{Choice, IsChoiceList, IsComplete}
use Rattle.tp_schedule.specs.Completions.{asked_plan, settled_ticks, total_of}
use Rattle.tp_schedule.specs.LivePlans.{is_live}
use Rattle.tp_schedule.specs.Answers.{IsAsked}
use Rattle.tp_schedule.specs.PlannerAnswers.{CanAsk, CanPlanOn, HasTimeFrom, IsOpenGoal}
use Rattle.tp_schedule.specs.Plans.{is_same_copy, put_plan, without}
use Rattle.tp_schedule.specs.Routes.{IsStart}
use Rattle.tp_schedule.specs.Spots.{Spot, Ticks}
use Rattle.tp_schedule.specs.Times.{timed_by}
use Rattle.tp_schedule.specs.declared.parts.Ask.{Ask}
use Rattle.tp_schedule.specs.declared.parts.Plan.{Plan}
use Rattle.tp_schedule.specs.declared.parts.SheetId.{SheetId}
use Rattle.tp_constraints.specs.Suffixes.{IsSuffixPoint, Suffix, SuffixTimes, HaveRooms, list_of}
use Rattle.tp_placing.specs.declared.parts.Change.{Change}
use Rattle.tp_placing.specs.declared.parts.Change.TheVariants.{Goal, Action, Place, Stop}
use Rattle.tp_placing.specs.declared.parts.Step.{Step}

-- the loaded plans are the live ones of a schedule on which the ask can be put
pub record IsLoadedFrom (machine : Machine) (plans : List Plan) (ask : Ask) (live : List Plan) : Type 0 where
  pub can_ask : CanAsk machine plans ask
  pub live_part : live ≡ filter (is_live machine ask.now) plans

-- the ask can be put on the plans, however many are live and whatever their names
pub record CanPut (machine : Machine) (plans : List Plan) (ask : Ask) : Type 0 where
  pub plan_on : CanPlanOn machine ask.now plans
  pub asked : IsAsked machine plans ask
  pub has_time : HasTimeFrom plans ask.now ask.origin
  pub open_goal : IsOpenGoal machine plans ask ask.goal

-- the held plans are the live ones of a schedule on which the ask can be put, perhaps with others that are over by now; and on
-- them it can be put too
pub record IsHeldFrom (machine : Machine) (plans : List Plan) (ask : Ask) (held : List Plan) : Type 0 where
  pub can_ask : CanAsk machine plans ask
  pub can_put : CanPut machine held ask
  pub live_part : filter (is_live machine ask.now) held ≡ filter (is_live machine ask.now) plans

-- the suffix is a complete choice list, of one choice or more, with its true rooms
pub record CanCommit (machine : Machine) (plans : List Plan) (ask : Ask) (x : Suffix) : Type 0 where
  pub goal : State
  pub first : State
  pub rooms : HaveRooms machine ask goal first x.choices x.rooms
  pub starts : IsStart machine ask first
  pub is_list : IsChoiceList machine plans ask (list_of goal x)
  pub complete : IsComplete machine ask (list_of goal x)
  pub some : 0 < length x.choices

-- ticks that give each point of a table its time in the least solution of a network
pub record AreLeastTicks (net : Net) (table : List Spot) (t : Ticks) : Type 0 where
  pub solution : ℕ → ℕ
  pub least : IsLeast net solution
  pub there : (i : ℕ) (s : Spot) → slice_get table i ≡ Some s → t s ≡ solution i

-- times counted back from a point
abbrev pub back_from : (ℕ → ℕ) → ℕ → ℕ → ℕ
back_from times point i = times (point - i)

-- the copy is among the loaded plans
abbrev pub is_loaded : List Plan → SheetId → Bool
is_loaded live copy = list_any (λ q. is_same_copy q.sheet copy) live

-- a plan of the schedule, at these ticks where it is loaded
abbrev pub retimed_in : List Plan → Ticks → Plan → Plan
retimed_in live t p = if is_loaded live p.sheet then timed_by t p else p

-- the schedule with the asked copy's plan by these choices, in which this plan and those of these live plans have these ticks
abbrev pub written_for : List Plan → List Plan → Ask → List Choice → Ticks → List Plan
written_for plans live ask choices t = put_plan (timed_by (settled_ticks ask (total_of ask choices) t) (asked_plan live ask choices)) (without ask.sheet (map (retimed_in live t) plans))

-- the held plans and the suffix may have these ticks, and no point of them an earlier one
pub record AreLeastTimes (machine : Machine) (held : List Plan) (ask : Ask) (x : Suffix) (t : Ticks) : Type 0 where
  pub times : SuffixTimes machine held ask x t
  pub least : (others : Ticks) → SuffixTimes machine held ask x others → (s : Spot) → IsSuffixPoint held x s → t s ≤ others s

-- what is written for a suffix on held plans: the asked copy's plan has its actions, and all live plans have the least ticks that
-- keep its holds in their places
pub record IsWrittenFor (machine : Machine) (plans held : List Plan) (ask : Ask) (new : List Plan) (x : Suffix) : Type 0 where
  pub ticks : Ticks
  pub least : AreLeastTimes machine held ask x ticks
  pub made : new ≡ written_for plans (filter (is_live machine ask.now) plans) ask x.choices ticks

-- the actions that steps open, the last first
abbrev pub opened_by : Change → List ActId
opened_by (Goal room) = []
opened_by (Action act room) = act ∷ []
opened_by (Place place) = []
opened_by Stop = []

abbrev pub opened : List Step → List ActId
opened steps = flat_map (λ s. opened_by s.change) (reverse steps)
