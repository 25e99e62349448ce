-- What a bound tree shows.
use Rattle.std.specs.Prelude.{ℤ, pos, ◌<ℤ◌, List}
use Rattle.tp_bounds.specs.declared.tree.BoundTree.{BoundTree}
use Rattle.tp_machine.specs.declared.machine.Machine.{Machine}
use Rattle.tp_schedule.specs.Answers.{IsAlternative, IsAsked}
use Rattle.tp_schedule.specs.Legality.{IsLegal}
use Rattle.tp_schedule.specs.Plans.{end_of_plan}
use Rattle.tp_schedule.specs.declared.parts.Ask.{Ask}
use Rattle.tp_schedule.specs.declared.parts.Plan.{Plan}
use Rattle.tp_bound_laws.specs.Trees.{IsBoundTree}

-- each alternative ends after the limit of a bound tree
abbrev pub TreeBounds : Type 0
TreeBounds = (machine : Machine) (plans : List Plan) (ask : Ask) (limit : ℤ) (tree : BoundTree) → IsLegal machine plans → IsAsked machine plans ask
    → IsBoundTree machine plans ask limit tree → (plans' : List Plan) (a : IsAlternative machine plans ask plans') → limit <ℤ pos (end_of_plan a.plan)
