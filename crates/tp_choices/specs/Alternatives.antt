-- Alternatives and complete choice lists are the same thing.
use Rattle.std.specs.Prelude.{◌≡◌, ℕ, ◌<◌, List, length}
use Rattle.tp_machine.specs.declared.machine.Machine.{Machine}
use Rattle.tp_schedule.specs.Answers.{IsAsked, IsAlternative}
use Rattle.tp_schedule.specs.Choices.{ChoiceList, acts_of, IsChoiceList, IsComplete, HasTimes, OpensTo}
use Rattle.tp_schedule.specs.Completions.{answered}
use Rattle.tp_schedule.specs.Legality.{IsLegal}
use Rattle.tp_schedule.specs.Plans.{end_of_plan}
use Rattle.tp_schedule.specs.Spots.{Ticks}
use Rattle.tp_schedule.specs.Spots.Spot.{own}
use Rattle.tp_schedule.specs.declared.parts.Ask.{Ask}
use Rattle.tp_schedule.specs.declared.parts.Plan.{Plan}

-- an alternative gives a complete list that opens to its end
abbrev pub AnswerOpens : Type 0
AnswerOpens = (machine : Machine) (plans plans' : List Plan) (ask : Ask) → IsLegal machine plans → IsAsked machine plans ask
    → (a : IsAlternative machine plans ask plans')
    → (list : ChoiceList) × IsComplete machine ask list × OpensTo machine plans ask list (end_of_plan a.plan)

-- two lists of the same actions that may have the same ticks have the same places
abbrev pub TicksFixPlaces : Type 0
TicksFixPlaces = (machine : Machine) (plans : List Plan) (ask : Ask) (list other : ChoiceList) (room room' : ℕ) (t : Ticks) → IsLegal machine plans
    → IsChoiceList machine plans ask list → IsChoiceList machine plans ask other → acts_of list.choices ≡ acts_of other.choices
    → HasTimes machine plans ask list room t → HasTimes machine plans ask other room' t → list.choices ≡ other.choices

-- ticks of a complete list make an alternative that ends at the same tick
abbrev pub CompleteAnswers : Type 0
CompleteAnswers = (machine : Machine) (plans : List Plan) (ask : Ask) (list : ChoiceList) (room : ℕ) (t : Ticks)
    → IsLegal machine plans → IsAsked machine plans ask
    → IsChoiceList machine plans ask list → IsComplete machine ask list → 0 < length list.choices → HasTimes machine plans ask list room t
    → (a : IsAlternative machine plans ask (answered plans ask list.choices t)) × (end_of_plan a.plan ≡ t (own 0))
