-- What a board keeps true of its fields.
use Rattle.std.specs.Prelude.{◌≡◌, ℕ, Bool, ◌<◌, ◌≤◌, List, length, slice_get, Option, Some, Vec, vec_capacity}
use Rattle.std.specs.declared.alloc.Global.{Global}
use Rattle.tp_base.specs.declared.edges.Edge.{Edge}
use Rattle.tp_base.specs.declared.edges.PointId.{PointId}
use Rattle.tp_timelines.specs.Orders.{Orders}
use Rattle.tp_schedule.specs.declared.parts.Ask.{Ask}
use Rattle.tp_schedule.specs.declared.parts.Plan.{Plan}
use Rattle.tp_placing.specs.declared.causes.EdgeCause.{EdgeCause}
use Rattle.tp_placing.specs.declared.parts.Begin.{Begin}
use Rattle.tp_placing.specs.declared.parts.BoardMark.{BoardMark}
use Rattle.tp_placing.specs.declared.parts.Held.{Held}
use Rattle.tp_placing.specs.declared.parts.MadeFor.{MadeFor}
use Rattle.tp_placing.specs.declared.parts.Step.{Step}
use Rattle.tp_placing.specs.Boards.{BoardValue}

abbrev pub board_of : {N : Type 0} → N → Orders → List Held → List Plan → List PointId → PointId → ℕ → ℕ → Option Ask → List Step → List BoardMark → MadeFor → List EdgeCause → Option PointId → Bool → BoardValue N
board_of net orders held plans firsts last floor horizon ask steps marks made_for causes limit settled = record {
  net = net;
  orders = orders;
  held = held;
  plans = plans;
  firsts = firsts;
  last = last;
  floor = floor;
  horizon = horizon;
  ask = ask;
  steps = steps;
  marks = marks;
  made_for = made_for;
  causes = causes;
  limit = limit;
  settled = settled;
}

-- the most plans, own points beside them, steps, holds and edges
abbrev pub most_plans : ℕ
most_plans = 257

abbrev pub most_steps : ℕ
most_steps = 330

abbrev pub most_holds : ℕ
most_holds = 66000

abbrev pub most_points : ℕ
most_points = 16642

abbrev pub most_edges : ℕ
most_edges = 100000

-- marks stand at no more steps and holds than there are, and at no less than the marks before them
pub record AreMarks (marks : List BoardMark) (steps held : ℕ) : Type 0 where
  pub steps_below : (k : ℕ) (m : BoardMark) → slice_get marks k ≡ Some m → m.steps ≤ steps
  pub held_below : (k : ℕ) (m : BoardMark) → slice_get marks k ≡ Some m → m.held ≤ held
  pub steps_rise : (j k : ℕ) (m n : BoardMark) → j < k → slice_get marks j ≡ Some m → slice_get marks k ≡ Some n → m.steps ≤ n.steps
  pub held_rise : (j k : ℕ) (m n : BoardMark) → j < k → slice_get marks j ≡ Some m → slice_get marks k ≡ Some n → m.held ≤ n.held

-- as many marks of the network as of the orders and of the board, and one to spare. The network takes one for each step that
-- there can be
pub record IsMarked (pasts max_marks : ℕ) (timelines : Orders) (marks : Vec BoardMark Global) (steps held : ℕ) : Type 0 where
  pub spare : pasts < max_marks
  pub for_steps : most_steps ≤ max_marks
  pub line_marks : length timelines.past ≡ pasts
  pub line_capacity : max_marks ≤ timelines.max_marks
  pub board_marks : length marks.items ≡ pasts
  pub mark_space : max_marks ≤ vec_capacity marks
  pub at_marks : AreMarks marks.items steps held

-- room for all points, edges, holds, steps and plans that there can be
pub record HasCapacity (max_points max_edges edge_capacity : ℕ) (timelines : Orders) (held : Vec Held Global) (begins : Vec Begin Global) (plans : Vec Plan Global) (firsts : Vec PointId Global) (steps : Vec Step Global) (made : Vec Edge Global) (made_for : MadeFor) : Type 0 where
  pub points : most_points ≤ max_points
  pub edges : most_edges ≤ max_edges
  pub all_edges : edge_capacity ≡ max_edges
  pub resources : length timelines.orders ≡ made_for.resources
  pub holds : most_holds ≤ timelines.hold_capacity
  pub held_few : length held.items ≤ most_holds
  pub held_space : most_holds ≤ vec_capacity held
  pub begin_space : most_holds ≤ vec_capacity begins
  pub steps_few : length steps.items ≤ most_steps
  pub steps_space : most_steps ≤ vec_capacity steps
  pub plan_space : most_plans ≤ vec_capacity plans
  pub first_space : most_plans ≤ vec_capacity firsts
  pub edge_space : most_edges ≤ vec_capacity made

pub record IsBoard (pasts max_marks max_points max_edges edge_capacity : ℕ) (timelines : Orders) (held : Vec Held Global) (begins : Vec Begin Global) (plans : Vec Plan Global) (firsts : Vec PointId Global) (steps : Vec Step Global)
    (marks : Vec BoardMark Global) (made : Vec Edge Global) (made_for : MadeFor) : Type 0 where
  pub marked : IsMarked pasts max_marks timelines marks (length steps.items) (length held.items)
  pub capacity : HasCapacity max_points max_edges edge_capacity timelines held begins plans firsts steps made made_for
