-- Rooms and earliest ends are one number, and the step that computes is the step as a relation.
use Rattle.std.proofs.Common.{◌≡◌, arith, Some}
use Rattle.std.specs.Prelude.{List}
use Rattle.tp_machine.specs.Steps.{Step, step_of}
use Rattle.tp_schedule.specs.Answers.{IsEarliest}
use Rattle.tp_schedule.specs.Plans.{end_of_plan}
use Rattle.tp_machine.specs.declared.parts.Action.{Action}
use Rattle.tp_machine.specs.declared.parts.Sheet.{Sheet}
use Rattle.tp_machine.specs.declared.parts.State.{State}
use Rattle.tp_machine.specs.declared.machine.Machine.{Machine}
use Rattle.tp_schedule.specs.declared.parts.Ask.{Ask}
use Rattle.tp_schedule.specs.declared.parts.Plan.{Plan}

pub Step-step_of : (a : Action) (sheet : Sheet) (s t : State) → step_of a sheet s ≡ Some t → Step a sheet s t
Step-step_of a sheet s t e = grind arith

-- two earliest answers end the copy at one tick
pub IsEarliest-end_unique : (machine : Machine) (plans : List Plan) (ask : Ask) (one other : List Plan) (a : IsEarliest machine plans ask one) (b : IsEarliest machine plans ask other) → end_of_plan a.alternative.plan ≡ end_of_plan b.alternative.plan
IsEarliest-end_unique machine plans ask one other a b =
    let below = a.first other b.alternative in
    let above = b.first one a.alternative in
    omega arith
