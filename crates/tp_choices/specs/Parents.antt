-- What a list has of its children.
use Rattle.std.specs.Prelude.{ℕ, ◌≤◌, List}
use Rattle.tp_machine.specs.declared.machine.Machine.{Machine}
use Rattle.tp_schedule.specs.Choices.{ChoiceList, IsChild, IsBound, OpensTo}
use Rattle.tp_schedule.specs.declared.parts.Ask.{Ask}
use Rattle.tp_schedule.specs.declared.parts.Plan.{Plan}

-- leaving out the newest choice, or the stop, leaves a list that opens to the same end
abbrev pub ParentOpens : Type 0
ParentOpens = (machine : Machine) (plans : List Plan) (ask : Ask) (parent child : ChoiceList) (end : ℕ) → IsChild machine ask parent child → OpensTo machine plans ask child end → OpensTo machine plans ask parent end

-- so its bound is not greater
abbrev pub ParentBound : Type 0
ParentBound = (machine : Machine) (plans : List Plan) (ask : Ask) (parent child : ChoiceList) (b c : ℕ) → IsChild machine ask parent child → IsBound machine plans ask parent b → IsBound machine plans ask child c → b ≤ c
