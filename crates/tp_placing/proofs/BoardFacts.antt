-- What a board keeps of its fields, after a step.
use Rattle.std.proofs.Common.{◌≡◌, ℕ, ◌+◌, ◌*◌, ◌≤◌, List, [], ◌∷◌, length, arith, Some, Bool, true, false}
use Rattle.std.specs.Prelude.{Vec, vec_capacity}
use Rattle.std.specs.declared.alloc.Global.{Global}
use Rattle.tp_base.specs.declared.edges.Edge.{Edge}
use Rattle.tp_base.specs.declared.edges.PointId.{PointId}
use Rattle.tp_timelines.specs.Orders.{Orders}
use Rattle.tp_schedule.specs.Choices.{Choice}
use Rattle.tp_schedule.specs.declared.parts.Plan.{Plan}
use Rattle.tp_constraints.specs.Suffixes.{Suffix}
use Rattle.tp_placing.specs.declared.parts.Begin.{Begin}
use Rattle.tp_placing.specs.declared.parts.BoardMark.{BoardMark}
use Rattle.tp_placing.specs.declared.parts.Held.{Held}
use Rattle.tp_placing.specs.declared.parts.MadeFor.{MadeFor}
use Rattle.tp_placing.specs.declared.parts.Step.{Step}
use Rattle.tp_placing.specs.Inside.{IsBoard, most_holds, most_steps}
use Rattle.tp_placing.specs.LoadedBoard.{AreFewSteps, choice_steps, newest_places, stop_steps}
use Rattle.tp_placing.proofs.PastFacts.{marks-more}

-- the fields after a step: the network and the orders keep their numbers, and holds and steps grow within their room
pub board-step : (pasts max_marks max_points max_edges edge_capacity : ℕ) (timelines : Orders) (held : Vec Held Global) (begins : Vec Begin Global) (plans : Vec Plan Global) (firsts : Vec PointId Global) (steps : Vec Step Global) (marks : Vec BoardMark Global) (made : Vec Edge Global) (made_for : MadeFor)
    → IsBoard pasts max_marks max_points max_edges edge_capacity timelines held begins plans firsts steps marks made made_for
    → (pasts' max_marks' max_points' max_edges' : ℕ) (timelines' : Orders) (held' : Vec Held Global) (steps' : Vec Step Global) (made' : Vec Edge Global)
    → pasts' ≡ pasts → max_marks' ≡ max_marks → max_points' ≡ max_points → max_edges' ≡ max_edges
    → length timelines'.past ≡ length timelines.past → timelines'.max_marks ≡ timelines.max_marks → length timelines'.orders ≡ length timelines.orders → timelines'.hold_capacity ≡ timelines.hold_capacity
    → length held.items ≤ length held'.items → length held'.items ≤ most_holds → vec_capacity held ≤ vec_capacity held'
    → length steps.items ≤ length steps'.items → length steps'.items ≤ most_steps → vec_capacity steps ≤ vec_capacity steps' → vec_capacity made ≤ vec_capacity made'
    → IsBoard pasts' max_marks' max_points' max_edges' edge_capacity timelines' held' begins plans firsts steps' marks made' made_for
board-step pasts max_marks max_points max_edges edge_capacity timelines held begins plans firsts steps marks made made_for b pasts' max_marks' max_points' max_edges' timelines' held' steps' made' p m pr er lp lm lo lh h1 h2 h3 s1 s2 s3 e3 =
    let i = b.marked in let r = b.capacity in
    let i1 = i.spare in let i2 = i.line_marks in let i3 = i.line_capacity in let i4 = i.board_marks in let i5 = i.mark_space in let i6 = i.for_steps in
    let r1 = r.points in let r2 = r.edges in let r2a = r.all_edges in let r3 = r.resources in let r4 = r.holds in let r6 = r.held_space in let r8 = r.steps_space in let r9 = r.edge_space in
    record {
      marked = record {
        spare = omega arith;
        for_steps = omega arith;
        line_marks = omega arith;
        line_capacity = omega arith;
        board_marks = omega arith;
        mark_space = omega arith;
        at_marks = marks-more marks.items _ _ _ _ s1 h1 i.at_marks;
      };
      capacity = record {
        points = omega arith;
        edges = omega arith;
        all_edges = omega arith;
        resources = omega arith;
        holds = omega arith;
        held_few = h2;
        held_space = omega arith;
        begin_space = r.begin_space;
        steps_few = s2;
        steps_space = omega arith;
        plan_space = r.plan_space;
        first_space = r.first_space;
        edge_space = omega arith;
      };
    }

-- the fields with other first points
pub board-firsts : (pasts max_marks max_points max_edges edge_capacity : ℕ) (timelines : Orders) (held : Vec Held Global) (begins : Vec Begin Global) (plans : Vec Plan Global) (firsts firsts' : Vec PointId Global) (steps : Vec Step Global) (marks : Vec BoardMark Global) (made : Vec Edge Global) (made_for : MadeFor)
    → IsBoard pasts max_marks max_points max_edges edge_capacity timelines held begins plans firsts steps marks made made_for → vec_capacity firsts ≤ vec_capacity firsts'
    → IsBoard pasts max_marks max_points max_edges edge_capacity timelines held begins plans firsts' steps marks made made_for
board-firsts pasts max_marks max_points max_edges edge_capacity timelines held begins plans firsts firsts' steps marks made made_for b wide =
    let r = b.capacity in
    let space = r.first_space in
    record {
      marked = b.marked;
      capacity = record {
        points = r.points;
        edges = r.edges;
        all_edges = r.all_edges;
        resources = r.resources;
        holds = r.holds;
        held_few = r.held_few;
        held_space = r.held_space;
        begin_space = r.begin_space;
        steps_few = r.steps_few;
        steps_space = r.steps_space;
        plan_space = r.plan_space;
        first_space = omega arith;
        edge_space = r.edge_space;
      };
    }

pub choices-room : (choices : List Choice) → newest_places choices ≤ 4 → choice_steps choices ≤ 5 * length choices
choices-room [] h = omega arith
choices-room (c ∷ choices) h = omega arith

-- a suffix of at most 64 actions is made in few steps
pub steps-room : (count steps : ℕ) (x : Suffix) → AreFewSteps count (Some x) steps → steps + 1 ≤ most_steps
steps-room count steps x few =
    let a = few.0 in let b = few.1 in
    let c = choices-room x.choices few.2 in
    let d = stop-one x.stopped in
    omega arith
  where
    stop-one : (b : Bool) → stop_steps b ≤ 1
    stop-one true = omega arith
    stop-one false = omega arith
