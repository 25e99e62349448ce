use Rattle.std.proofs.Common.{arith, sym, ◌∙◌, ap, length, ◌∷◌, []}
use Rattle.std.proofs.lemmas.List.{length-append}
use Rattle.tp_timelines.specs.Orders.{Sizes}
use Rattle.tp_placing.proofs.PastFacts.{length-side, side-push, marks-push}
use Rattle.tp_placing.proofs.NetworkFacts.{can-mark, same-marks}
use Rattle.tp_placing.proofs.undo.BoardUndo.mark.Goals as goal

pub mark-mark-requires : goal.mark-mark-requires
mark-mark-requires g c = can-mark g.met.N.Network.kept_by_marks c.self.inside.net c.self.invariant.marked.spare

pub invariant_of-self : goal.invariant_of-self
invariant_of-self g c =
    let a = c.self.inside in
    let i = c.self.invariant.marked in
    let r = c.self.invariant.capacity in
    let q = rw (← c.self.view_is, length-side a.held.items a.steps.items (g.N.Network.reading.past a.net) a.timelines.past a.marks.items i.line_marks i.board_marks) at c.requires in
    let kept = g.met.N.Network.kept_by_marks in
    let e1 = ap length (kept.marked _ _ c.mark-mark.ensures.past) in
    let e2 = length-append (g.N.Network.reading.past a.net) (g.N.Network.reading.net a.net ∷ []) in
    let f1 = ap length c.mark-line_mark.ensures.past in
    let f2 = length-append a.timelines.past (a.timelines.orders ∷ []) in
    let h1 = ap length c.push_reserved.ensures.items ∙ length-append a.marks.items (_ ∷ []) in
    let o = ap (λ (s : Sizes). s.resources) c.mark-line_mark.ensures.untouched in
    let hr = ap (λ (s : Sizes). s.hold_capacity) c.mark-line_mark.ensures.untouched in
    let pr = g.met.N.Network.points_by_untouched _ _ c.mark-mark.ensures.untouched in
    let er = g.met.N.Network.edges_by_untouched _ _ c.mark-mark.ensures.untouched in
    let mr = same-marks kept _ _ c.mark-mark.ensures.capacity in
    let lr = c.mark-line_mark.ensures.capacity in
    let cap = c.push_reserved.ensures.capacity in
    let i1 = i.spare in let i2 = i.line_marks in let i3 = i.line_capacity in let i4 = i.board_marks in let i5 = i.mark_space in let i6 = i.for_steps in
    let r1 = r.points in let r2 = r.edges in let r2a = r.all_edges in let r3 = r.resources in let r4 = r.holds in
    record {
      marked = record {
        spare = omega arith;
        for_steps = omega arith;
        line_marks = omega arith;
        line_capacity = omega arith;
        board_marks = omega arith;
        mark_space = omega arith;
        at_marks = rw c.push_reserved.ensures.items (marks-push a.marks.items _ _ _ (c.len.ensures ∙ a.steps.ok.0) (c.len-2.ensures ∙ a.held.ok.0) i.at_marks);
      };
      capacity = record {
        points = omega arith;
        edges = omega arith;
        all_edges = omega arith;
        resources = omega arith;
        holds = omega arith;
        held_few = r.held_few;
        held_space = r.held_space;
        begin_space = r.begin_space;
        steps_few = r.steps_few;
        steps_space = r.steps_space;
        plan_space = r.plan_space;
        first_space = r.first_space;
        edge_space = r.edge_space;
      };
    }

pub returns-clause-number : goal.returns-clause-number
returns-clause-number g c =
    let a = c.self.inside in
    let i = c.self.invariant.marked in
    rw (← c.self.view_is) (c.mark-mark.ensures.number ∙ sym (g.met.N.Network.kept_by_marks.count _) ∙ sym (length-side a.held.items a.steps.items (g.N.Network.reading.past a.net) a.timelines.past a.marks.items i.line_marks i.board_marks))

pub returns-clause-past : goal.returns-clause-past
returns-clause-past g c =
    let a = c.self.inside in
    let i = c.self.invariant.marked in
    let marked = g.met.N.Network.kept_by_marks.marked _ _ c.mark-mark.ensures.past in
    rw (← c.self.view_is, marked, c.mark-line_mark.ensures.past, c.push_reserved.ensures.items)
    (side-push a.held.items a.steps.items (g.N.Network.reading.past a.net) a.timelines.past a.marks.items (g.N.Network.reading.net a.net) a.timelines.orders _ i.line_marks i.board_marks (c.len-2.ensures ∙ a.held.ok.0) (c.len.ensures ∙ a.steps.ok.0))
