-- What is claimed of an ask, and trees that show it on the live part of a schedule.
use Rattle.std.specs.Prelude.{◌+◌, ◌||◌, List, filter, ℤ, pos, ◌-ℤ◌}
use Rattle.tp_bounds.specs.declared.tree.BoundTree.{BoundTree}
use Rattle.tp_machine.specs.declared.machine.Machine.{Machine}
use Rattle.tp_schedule.specs.Answers.{IsAlternative, IsAsked, NoneBefore}
use Rattle.tp_schedule.specs.Legality.{IsLegal}
use Rattle.tp_schedule.specs.LivePlans.{is_live}
use Rattle.tp_schedule.specs.Plans.{is_same_copy}
use Rattle.tp_schedule.specs.declared.parts.Ask.{Ask}
use Rattle.tp_schedule.specs.declared.parts.Plan.{Plan}
use Rattle.tp_bound_laws.specs.declared.claim.Claim.{Claim}
use Rattle.tp_bound_laws.specs.declared.claim.Claim.TheVariants.{Earliest, Never}
use Rattle.tp_bound_laws.specs.Trees.{IsBoundTree}

-- the last tick that is claimed to be too early, or the horizon
abbrev pub limit_of : Machine → Ask → Claim → ℤ
limit_of machine ask (Earliest end) = pos end -ℤ pos 1
limit_of machine ask Never = pos (ask.now + machine.window)

-- what is claimed: no alternative ends before the tick, or none exists
abbrev pub IsTold : Machine → List Plan → Ask → Claim → Type 0
IsTold machine plans ask (Earliest end) = NoneBefore machine plans ask end
IsTold machine plans ask Never = (plans' : List Plan) → ¬ IsAlternative machine plans ask plans'

-- the plans that are live, and the asked copy's front
abbrev pub live_part : Machine → Ask → List Plan → List Plan
live_part machine ask plans = filter (λ p. is_live machine ask.now p || is_same_copy p.sheet ask.sheet) plans

-- the tree is one for the claim on the live part
abbrev pub IsTreeFor : Machine → List Plan → Ask → Claim → BoundTree → Type 0
IsTreeFor machine plans ask claim tree = IsBoundTree machine (live_part machine ask plans) ask (limit_of machine ask claim) tree

-- what a tree is for holds on the whole schedule
abbrev pub TreeTells : Type 0
TreeTells = (machine : Machine) (plans : List Plan) (ask : Ask) (claim : Claim) (tree : BoundTree) → IsLegal machine plans → IsAsked machine plans ask → IsTreeFor machine plans ask claim tree → IsTold machine plans ask claim
