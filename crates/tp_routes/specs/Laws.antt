-- How rooms follow one another.
use Rattle.std.specs.Prelude.{◌≡◌, ℕ, ◌+◌, ◌≤◌, Some, IsTrue}
use Rattle.tp_machine.specs.Steps.{step_of}
use Rattle.tp_machine.specs.ModuleUse.{action_at}
use Rattle.tp_machine.specs.declared.parts.ActId.{ActId}
use Rattle.tp_machine.specs.declared.parts.Action.{Action}
use Rattle.tp_machine.specs.declared.parts.State.{State}
use Rattle.tp_machine.specs.declared.machine.Machine.{Machine}
use Rattle.tp_schedule.specs.Routes.{IsRoom, is_act_allowed}
use Rattle.tp_schedule.specs.declared.parts.Ask.{Ask}

-- a step by an allowed action from a state that has room leads to a state that has room, at most that of the state
-- before and the action's least duration more
abbrev pub StepsKeepRoom : Type 0
StepsKeepRoom = (machine : Machine) (ask : Ask) (act : ActId) (a : Action) (s s' : State) (room : ℕ)
    → action_at machine act.0 ≡ Some a → IsTrue (is_act_allowed machine ask.outs act) → step_of a ask.want s ≡ Some s' → IsRoom machine ask s room
    → ((room' : ℕ) → IsRoom machine ask s' room' → room' ≤ room + a.least)
