-- Each alternative ends after the limit of a bound tree.
use Rattle.std.proofs.Common.{◌≡◌, Bool, true, false, ℕ, List, refl, sym, subst, arith}
use Rattle.std.specs.Prelude.{ℤ, pos, ◌<ℤ◌, ◌≤ℤ◌, int_lt}
use Rattle.std.proofs.lemmas.Int.{ints}
use Rattle.tp_bounds.specs.declared.tree.BoundTree.{BoundTree}
use Rattle.tp_machine.specs.declared.machine.Machine.{Machine}
use Rattle.tp_schedule.specs.Answers.{IsAsked}
use Rattle.tp_schedule.specs.Choices.{ChoiceList, IsComplete, OpensTo, acts_of}
use Rattle.tp_schedule.specs.Legality.{IsLegal}
use Rattle.tp_schedule.specs.Plans.{end_of_plan}
use Rattle.tp_schedule.specs.Spots.Spot.{own}
use Rattle.tp_schedule.specs.declared.parts.Ask.{Ask}
use Rattle.tp_schedule.specs.declared.parts.Plan.{Plan}
use Rattle.tp_schedule.proofs.Membership.{Contains-map}
use Rattle.tp_choices.proofs.AnswerOpens.{answer_opens}
use Rattle.tp_bound_laws.specs.Laws.{TreeBounds}
use Rattle.tp_bound_laws.specs.Places.{goal_states, is_done_wanted}
use Rattle.tp_bound_laws.specs.Places.Due.{goal}
use Rattle.tp_bound_laws.specs.Trees.{IsBoundTree}
use Rattle.tp_bound_laws.proofs.BuiltLists.{target}
use Rattle.tp_bound_laws.proofs.DuePlaces.{covers-none}
use Rattle.tp_bound_laws.proofs.GoalsDue.{goal-due, reached-wanted, walk-wanted}

-- no open complete list ends by the limit
none-by : (machine : Machine) (plans : List Plan) (ask : Ask) (limit : ℤ) (tree : BoundTree) → IsLegal machine plans → IsAsked machine plans ask → IsBoundTree machine plans ask limit tree
    → (list : ChoiceList) (end : ℕ) → IsComplete machine ask list → OpensTo machine plans ask list end → pos end ≤ℤ limit → ⊥
none-by machine plans ask limit tree legal asked is list end complete o by_limit =
    let found = target machine plans ask tree.rows is.rows o.ticks list.goal list refl o.is_list complete o.state o.first_state o.before o.allowed o.reaches o.times in
    let wanted : is_done_wanted ask.want list.goal ≡ true = walk-wanted machine ask.want (acts_of list.choices) o.state list.goal (reached-wanted machine plans ask o.before o.state asked o.reaches) o.first_state in
    let due = Contains-map (λ s. goal s) (goal_states machine ask.want ask.goal) list.goal (goal-due machine ask.want ask.goal list.goal o.is_list.goal wanted) in
    let by : pos (o.ticks (own 0)) ≤ℤ limit = subst (λ n. pos n ≤ℤ limit) (sym o.ends) by_limit in
    covers-none machine plans ask tree.rows found.X is.rows asked legal o.ticks found.times limit by tree.nodes _ is.nodes (goal list.goal, due, found.way)

pub tree_bounds : TreeBounds
tree_bounds machine plans ask limit tree legal asked is plans' a =
    let found = answer_opens machine plans plans' ask legal asked a in
    go (int_lt limit (pos (end_of_plan a.plan))) refl (none-by machine plans ask limit tree legal asked is found.0 (end_of_plan a.plan) found.1 found.2) where
      go : (b : Bool) → int_lt limit (pos (end_of_plan a.plan)) ≡ b → (pos (end_of_plan a.plan) ≤ℤ limit → ⊥) → limit <ℤ pos (end_of_plan a.plan)
      go true e none = below limit (pos (end_of_plan a.plan)) e where
        below : (m n : ℤ) → int_lt m n ≡ true → m <ℤ n
        below m n h = grind (arith, ints)
      go false e none = absurd (none (above limit (pos (end_of_plan a.plan)) e)) where
        above : (m n : ℤ) → int_lt m n ≡ false → n ≤ℤ m
        above m n h = grind (arith, ints)
