-- The least solution of a network makes a least schedule, and tells a bound.
use Rattle.std.specs.Prelude.{◌≡◌, ℕ, ◌<◌, Bool, false, List, length, map}
use Rattle.tp_base.specs.Net.{Net, IsLeast as IsLeastSolution}
use Rattle.tp_machine.specs.declared.parts.State.{State}
use Rattle.tp_machine.specs.declared.machine.Machine.{Machine}
use Rattle.tp_schedule.specs.Answers.{IsAsked, IsAlternative, IsRetimed, IsLeast, follows_front}
use Rattle.tp_schedule.specs.Choices.{IsChoiceList, IsComplete, IsBound}
use Rattle.tp_schedule.specs.Completions.{answered}
use Rattle.tp_schedule.specs.Plans.{end_of_plan}
use Rattle.tp_schedule.specs.Routes.{IsStart}
use Rattle.tp_schedule.specs.Spots.{Spot}
use Rattle.tp_schedule.specs.Spots.Spot.{own}
use Rattle.tp_schedule.specs.Times.{timed_by}
use Rattle.tp_schedule.specs.declared.parts.Ask.{Ask}
use Rattle.tp_schedule.specs.declared.parts.Plan.{Plan}
use Rattle.tp_choices.specs.Retimings.{IgnoresPoints}
use Rattle.tp_constraints.specs.Laws.{IsLoadable}
use Rattle.tp_constraints.specs.Nets.{IsLoadedNet, IsBoardNet}
use Rattle.tp_constraints.specs.Numbers.{ticks_by, number}
use Rattle.tp_constraints.specs.Suffixes.{Suffix, list_of, HaveRooms}

-- the least solution of a complete list's network makes an alternative that is a least schedule and ends as the solution says
abbrev pub CommitLaw : Type 0
CommitLaw = (machine : Machine) (plans : List Plan) (ask : Ask) (x : Suffix) (goal s : State) (table : List Spot) (net : Net) (sol : ℕ → ℕ)
    → IsLoadable machine ask.now (λ _. false) plans → IsAsked machine plans ask → IsBoardNet machine plans ask x table net → HaveRooms machine ask goal s x.choices x.rooms → IsStart machine ask s
    → IsChoiceList machine plans ask (list_of goal x) → IsComplete machine ask (list_of goal x) → 0 < length x.choices → IsLeastSolution net sol
    → ((a : IsAlternative machine plans ask (answered plans ask x.choices (ticks_by table sol))) × (end_of_plan a.plan ≡ sol (number table (own 0))))
    × IsLeast machine ask.now (follows_front ask) (answered plans ask x.choices (ticks_by table sol))

-- the end in the least solution is the list's bound
abbrev pub BoundLaw : Type 0
BoundLaw = (machine : Machine) (plans : List Plan) (ask : Ask) (x : Suffix) (goal s : State) (table : List Spot) (net : Net) (sol : ℕ → ℕ)
    → IsBoardNet machine plans ask x table net → HaveRooms machine ask goal s x.choices x.rooms → IsChoiceList machine plans ask (list_of goal x) → IsLeastSolution net sol
    → IsBound machine plans ask (list_of goal x) (sol (number table (own 0)))

-- the least solution of a loaded schedule's network makes it least
abbrev pub SettleLaw : Type 0
SettleLaw = (machine : Machine) (now : ℕ) (exempt : Plan → Bool) (plans : List Plan) (table : List Spot) (net : Net) (sol : ℕ → ℕ)
    → IsLoadable machine now exempt plans → IgnoresPoints exempt → IsLoadedNet machine now exempt plans table net → IsLeastSolution net sol
    → IsRetimed machine now exempt plans (map (timed_by (ticks_by table sol)) plans) × IsLeast machine now exempt (map (timed_by (ticks_by table sol)) plans)
