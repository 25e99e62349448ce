use Rattle.std.proofs.Common.{arith, ◌∙◌, ap, length, refl}
use Rattle.std.proofs.lemmas.List.{length-take-le}
use Rattle.std.proofs.lemmas.Option.{slice_get_read}
use Rattle.tp_timelines.specs.Orders.{Sizes}
use Rattle.tp_placing.proofs.PastFacts.{length-side, side-get, side-take, marks-undone}
use Rattle.tp_placing.proofs.NetworkFacts.{can-undo, same-marks}
use Rattle.tp_placing.proofs.undo.BoardUndo.undo_to.Goals as goal

within : goal.undo_to-requires
within g c =
    let a = c.self.inside in
    let i = c.self.invariant.marked in
    let q = rw (← c.self.view_is, length-side a.held.items a.steps.items (g.N.Network.reading.past a.net) a.timelines.past a.marks.items i.line_marks i.board_marks) at c.requires in
    can-undo g.met.N.Network.kept_by_marks a.net c.args.mark.0 q

pub undo_to-requires : goal.undo_to-requires
undo_to-requires g c = within g c

pub undo_to-requires-2 : goal.undo_to-requires-2
undo_to-requires-2 g c =
    let a = c.self.inside in
    let i = c.self.invariant.marked in
    let q = rw (← c.self.view_is, length-side a.held.items a.steps.items (g.N.Network.reading.past a.net) a.timelines.past a.marks.items i.line_marks i.board_marks) at c.requires in
    let e = i.line_marks in
    omega arith

pub index-counts-requires : goal.index-counts-requires
index-counts-requires g c =
    let a = c.self.inside in
    let i = c.self.invariant.marked in
    let q = rw (← c.self.view_is, length-side a.held.items a.steps.items (g.N.Network.reading.past a.net) a.timelines.past a.marks.items i.line_marks i.board_marks) at c.requires in
    let e = i.board_marks in
    let o = a.marks.ok.0 in
    omega arith

pub invariant_of-self : goal.invariant_of-self
invariant_of-self g c =
    let a = c.self.inside in
    let i = c.self.invariant.marked in
    let r = c.self.invariant.capacity in
    let k = c.args.mark.0 in
    let q = rw (← c.self.view_is, length-side a.held.items a.steps.items (g.N.Network.reading.past a.net) a.timelines.past a.marks.items i.line_marks i.board_marks) at c.requires in
    let i1 = i.spare in let i2 = i.line_marks in let i3 = i.line_capacity in let i4 = i.board_marks in let i5 = i.mark_space in let i6 = i.for_steps in
    let mo = a.marks.ok.0 in
    let at = slice_get_read a.marks.items (length a.marks.items) k c.index-counts.result.now refl (omega arith) c.index-counts.ensures in
    let s = i.at_marks.steps_below k c.index-counts.result.now at in
    let h = i.at_marks.held_below k c.index-counts.result.now at in
    let kept = g.met.N.Network.kept_by_marks in
    let e1 = ap length (kept.fewer _ _ k c.undo_to.ensures.past) ∙ length-take-le k (g.N.Network.reading.past a.net) (omega arith) in
    let f1 = ap length c.undo_to-2.ensures.past ∙ length-take-le k a.timelines.past (omega arith) in
    let h1 = ap length c.truncate-3.ensures.items ∙ length-take-le k a.marks.items (omega arith) in
    let st = ap length c.truncate-2.ensures.items ∙ length-take-le c.index-counts.result.now.steps a.steps.items s in
    let hd = ap length c.truncate.ensures.items ∙ length-take-le c.index-counts.result.now.held a.held.items h in
    let o = ap (λ (s : Sizes). s.resources) c.undo_to-2.ensures.untouched in
    let hr = ap (λ (s : Sizes). s.hold_capacity) c.undo_to-2.ensures.untouched in
    let pr = g.met.N.Network.points_by_untouched _ _ c.undo_to.ensures.untouched in
    let er = g.met.N.Network.edges_by_untouched _ _ c.undo_to.ensures.untouched in
    let mr = same-marks kept _ _ c.undo_to.ensures.capacity in
    let lr = c.undo_to-2.ensures.capacity in
    let cap1 = c.truncate.ensures.capacity in
    let cap2 = c.truncate-2.ensures.capacity in
    let cap3 = c.truncate-3.ensures.capacity in
    let r1 = r.points in let r2 = r.edges in let r2a = r.all_edges in let r3 = r.resources in let r4 = r.holds in let r5 = r.held_few in let r6 = r.held_space in let r7 = r.steps_few in let r8 = r.steps_space in
    record {
      marked = record {
        spare = omega arith;
        for_steps = omega arith;
        line_marks = omega arith;
        line_capacity = omega arith;
        board_marks = omega arith;
        mark_space = omega arith;
        at_marks = rw (c.truncate-3.ensures.items, st, hd) (marks-undone a.marks.items _ _ k c.index-counts.result.now at i.at_marks);
      };
      capacity = record {
        points = omega arith;
        edges = omega arith;
        all_edges = omega arith;
        resources = omega arith;
        holds = omega arith;
        held_few = omega arith;
        held_space = omega arith;
        begin_space = r.begin_space;
        steps_few = omega arith;
        steps_space = omega arith;
        plan_space = r.plan_space;
        first_space = r.first_space;
        edge_space = r.edge_space;
      };
    }

pub returns-clause-content : goal.returns-clause-content
returns-clause-content g c =
    let a = c.self.inside in
    let i = c.self.invariant.marked in
    let k = c.args.mark.0 in
    let q = rw (← c.self.view_is, length-side a.held.items a.steps.items (g.N.Network.reading.past a.net) a.timelines.past a.marks.items i.line_marks i.board_marks) at c.requires in
    let i4 = i.board_marks in
    let at = slice_get_read a.marks.items (length a.marks.items) k c.index-counts.result.now refl (omega arith) c.index-counts.ensures in
    rw (← c.self.view_is, c.truncate.ensures.items, c.truncate-2.ensures.items)
    (side-get a.held.items a.steps.items (g.N.Network.reading.past a.net) a.timelines.past a.marks.items k _ _ c.index-counts.result.now (g.met.N.Network.kept_by_marks.back _ _ k c.undo_to.ensures.content) c.undo_to-2.ensures.content at)

pub returns-clause-past : goal.returns-clause-past
returns-clause-past g c =
    let a = c.self.inside in
    let i = c.self.invariant.marked in
    let k = c.args.mark.0 in
    let q = rw (← c.self.view_is, length-side a.held.items a.steps.items (g.N.Network.reading.past a.net) a.timelines.past a.marks.items i.line_marks i.board_marks) at c.requires in
    let i4 = i.board_marks in
    let at = slice_get_read a.marks.items (length a.marks.items) k c.index-counts.result.now refl (omega arith) c.index-counts.ensures in
    rw (← c.self.view_is, c.truncate.ensures.items, c.truncate-2.ensures.items, c.truncate-3.ensures.items, g.met.N.Network.kept_by_marks.fewer _ _ k c.undo_to.ensures.past, c.undo_to-2.ensures.past)
    (side-take a.held.items a.steps.items (g.N.Network.reading.past a.net) a.timelines.past a.marks.items k c.index-counts.result.now.held c.index-counts.result.now.steps
    (λ j m l z. (i.at_marks.held_rise j k m _ l z at, i.at_marks.steps_rise j k m _ l z at)))
