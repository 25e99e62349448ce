-- A table of rests by the numbers of states.
use Rattle.std.specs.Prelude.{◌≡◌, ℕ, ◌+◌, ◌<◌, ◌≤◌, List, length, Option, Some, IsTrue}
use Rattle.tp_machine.specs.declared.machine.Machine.{Machine}
use Rattle.tp_machine.specs.declared.parts.State.{State}
use Rattle.tp_routes.specs.Numbers.{number_of, state_at}
use Rattle.tp_routes.specs.Tables.{sum_at}
use Rattle.tp_schedule.specs.Routes.{IsGoalState, is_act_allowed, least_of, step_by}
use Rattle.tp_schedule.specs.declared.parts.Ask.{Ask}

-- the rest of a state, if it has one
abbrev pub rest_of : List (Option ℕ) → State → Option ℕ
rest_of rests s = sum_at rests (number_of s)

-- the step of an action from the state of a number is in the table: the state needs at most the least duration of the action and
-- the rest that the next state needs
abbrev pub IsStepIn : Machine → Ask → List (Option ℕ) → ℕ → ℕ → Type 0
IsStepIn machine ask rests act number = (next : State) (n : ℕ) → IsTrue (is_act_allowed machine ask.outs (record { 0 = act })) → step_by machine ask.want (record { 0 = act }) (state_at number) ≡ Some next
    → rest_of rests next ≡ Some n → (m : ℕ) × (sum_at rests number ≡ Some m) × (m ≤ least_of machine (record { 0 = act }) + n)

-- the steps of an action from all states are in the table
abbrev pub AreStepsIn : Machine → Ask → List (Option ℕ) → ℕ → Type 0
AreStepsIn machine ask rests act = (number : ℕ) → IsStepIn machine ask rests act number

-- each goal state needs no more
abbrev pub AreGoalsIn : Machine → Ask → List (Option ℕ) → Type 0
AreGoalsIn machine ask rests = (number : ℕ) → number < length rests → IsGoalState machine ask.want ask.goal (state_at number) → sum_at rests number ≡ Some 0

-- a state that needs no more still needs no more
abbrev pub KeepsGoals : List (Option ℕ) → List (Option ℕ) → Type 0
KeepsGoals rests rests' = (number : ℕ) → sum_at rests number ≡ Some 0 → sum_at rests' number ≡ Some 0
