-- What a complete way that has times comes to: an alternative.
use Rattle.std.specs.Prelude.{ℕ, ◌≤◌, false, List, IsFalse}
use Rattle.tp_machine.specs.declared.parts.State.{State}
use Rattle.tp_machine.specs.declared.machine.Machine.{Machine}
use Rattle.tp_schedule.specs.Answers.{IsAlternative, IsAsked}
use Rattle.tp_schedule.specs.Choices.{IsComplete}
use Rattle.tp_schedule.specs.Legality.{IsLegal}
use Rattle.tp_schedule.specs.PlannerAnswers.{IsKnownGoal}
use Rattle.tp_schedule.specs.Plans.{end_of_plan}
use Rattle.tp_schedule.specs.Spots.{Ticks}
use Rattle.tp_schedule.specs.Spots.Spot.{own}
use Rattle.tp_schedule.specs.declared.parts.Ask.{Ask}
use Rattle.tp_schedule.specs.declared.parts.Plan.{Plan}
use Rattle.tp_constraints.specs.Laws.{IsLoadable}
use Rattle.tp_constraints.specs.Suffixes.{Suffix, SuffixTimes, list_of, with_stop}
use Rattle.tp_constraints.specs.Ways.{IsPlaced, IsWay}

-- some alternative ends by a tick
pub record EndsBy (machine : Machine) (plans : List Plan) (ask : Ask) (last : ℕ) : Type 0 where
  pub answer : List Plan
  pub alternative : IsAlternative machine plans ask answer
  pub by : end_of_plan alternative.plan ≤ last

-- the suffix has times that end by a tick
pub record HasEndBy (machine : Machine) (plans : List Plan) (ask : Ask) (x : Suffix) (last : ℕ) : Type 0 where
  pub ticks : Ticks
  pub are_times : SuffixTimes machine plans ask x ticks
  pub by : ticks (own 0) ≤ last

-- a complete way that has such times is an alternative that ends by the tick
abbrev pub CompleteEnds : Type 0
CompleteEnds = (machine : Machine) (plans : List Plan) (ask : Ask) (goal first : State) (x : Suffix) (last : ℕ) → IsLegal machine plans → IsAsked machine plans ask → IsKnownGoal machine ask.goal
    → IsWay machine plans ask goal first x → IsPlaced machine x.choices → IsComplete machine ask (list_of goal x) → HasEndBy machine plans ask x last → EndsBy machine plans ask last

-- the stop makes a way end no later
abbrev pub StopEnds : Type 0
StopEnds = (machine : Machine) (plans : List Plan) (ask : Ask) (goal first : State) (x : Suffix) (last : ℕ) (t : Ticks) → IsLoadable machine ask.now (λ _. false) plans → IsAsked machine plans ask
    → IsWay machine plans ask goal first x → IsFalse x.stopped → HasEndBy machine plans ask x last → SuffixTimes machine plans ask (with_stop x) t → HasEndBy machine plans ask (with_stop x) last
