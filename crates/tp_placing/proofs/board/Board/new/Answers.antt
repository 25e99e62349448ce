use Rattle.std.proofs.Common.{◌∙◌, ap, arith, length}
use Rattle.std.proofs.lemmas.List.{length-replicate}
use Rattle.tp_base.specs.Net.{Net}
use Rattle.tp_placing.proofs.PastFacts.{marks-none}
use Rattle.tp_placing.proofs.board.Board.new.Goals as goal

pub invariant_of-result : goal.invariant_of-result
invariant_of-result g c =
    let n = c.clear.new.self in
    let same = c.clear.ensures.same_size in
    let points = same.points in
    let edges = same.edges in
    let marks = same.marks in
    let none = ap length c.clear.ensures.past in
    let no-edge = ap (λ (x : Net). length x.edges) c.clear.ensures.net in
    let all-marks = g.met.N.Network.kept_by_marks.capacity n in
    let count = g.met.N.Network.kept_by_marks.count n in
    let spare = c.spare_marks-marks.ensures in
    let spare-edges = c.spare_edges-edge_capacity.ensures in
    let r1 = c.requires.points in
    let r2 = c.requires.edges in
    let r3 = c.requires.marks in
    let lines = c.in_ok-timelines.ensures in
    let line-past = ap length lines.past in
    let line-marks = lines.marks in
    let holds = lines.holds in
    let kept = c.in_ok-plan_lists.ensures in
    let held = ap length kept.held in
    let made = c.in_ok-step_lists.ensures in
    let steps = ap length made.steps in
    let no-mark = ap length made.marks in
    let mark-space = made.mark_space in
    record {
      marked = record {
        spare = omega arith;
        for_steps = omega arith;
        line_marks = omega arith;
        line_capacity = omega arith;
        board_marks = omega arith;
        mark_space = omega arith;
        at_marks = marks-none _ _ _ no-mark;
      };
      capacity = record {
        points = omega arith;
        edges = omega arith;
        all_edges = omega arith;
        resources = ap length lines.orders ∙ length-replicate _ _;
        holds = omega arith;
        held_few = omega arith;
        held_space = kept.held_space;
        begin_space = kept.begin_space;
        steps_few = omega arith;
        steps_space = made.steps_space;
        plan_space = kept.plan_space;
        first_space = kept.first_space;
        edge_space = made.edge_space;
      };
    }
