-- The lists of a new board.
use Rattle.std.specs.Prelude.{◌≡◌, ℕ, ◌≤◌, [], vec_capacity}
use Rattle.tp_placing.specs.Inside.{most_edges, most_holds, most_plans, most_steps}
use Rattle.tp_placing.specs.declared.new_board.PlanLists.{PlanLists}
use Rattle.tp_placing.specs.declared.new_board.StepLists.{StepLists}

-- no hold yet, and capacity for all plans and holds that there can be
pub record AreNewPlanLists (lists : PlanLists) : Type 0 where
  pub held : lists.held.items ≡ []
  pub held_space : most_holds ≤ vec_capacity lists.held
  pub begin_space : most_holds ≤ vec_capacity lists.begins
  pub plan_space : most_plans ≤ vec_capacity lists.plans
  pub first_space : most_plans ≤ vec_capacity lists.firsts

-- no step and no mark yet, and capacity for all steps and edges that there can be, and for so many marks
pub record AreNewStepLists (max_marks : ℕ) (lists : StepLists) : Type 0 where
  pub steps : lists.steps.items ≡ []
  pub marks : lists.marks.items ≡ []
  pub steps_space : most_steps ≤ vec_capacity lists.steps
  pub mark_space : max_marks ≤ vec_capacity lists.marks
  pub edge_space : most_edges ≤ vec_capacity lists.edges
