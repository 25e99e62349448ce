use Rattle.std.proofs.lemmas.List.{take_all, take-append-le}
use Rattle.tp_placing.proofs.NetworkFacts.{same-marks}
use Rattle.std.proofs.Common.{arith, take, ◌≡◌, ◌∙◌, ap, subst, sym, pos, length}
use Rattle.tp_base.specs.Net.{HasLeast, with_edge}
use Rattle.tp_base.proofs.MarkFacts.{last_mark}
use Rattle.tp_placing.specs.Causes.{limit_tag}
use Rattle.tp_placing.specs.Edges.{edge_of}
use Rattle.tp_placing.specs.Reasons.{with_limit}
use Rattle.tp_placing.proofs.TryFacts.{not-late}
use Rattle.tp_placing.proofs.refusal.refuse_by.Goals as goal

pub unreachable-requires-in-Ok-require : goal.unreachable-requires-in-Ok-require
unreachable-requires-in-Ok-require g c =
    let number : c.in-Ok.limit ≡ record { 0 = length (g.N.Network.reading.net c.mark-mark.new.self).lows } = ap (λ n. record { 0 = n }) c.in-Ok.ensures.number in
    let edge = c.edge_between.ensures ∙ ap (λ p. edge_of c.args.point p (pos 0) limit_tag) number in
    let added = c.in-Ok.ensures.added in
    let marked = g.met.N.Network.kept_by_marks.same _ _ c.mark-mark.ensures.content in
    let same = c.in-Ok-require.ensures.added ∙ (λ i. with_edge (added i) (edge i)) ∙ ap (λ n. with_limit n c.args.point c.args.last) marked in
    not-late _ c.requires.late (subst HasLeast same c.in-Ok-require.ensures.solved)

pub returns-clause-same : goal.returns-clause-same
returns-clause-same g c =
    let kept = g.met.N.Network.kept_by_marks in
    last_mark _ _ _ _ _ (c.in-Err.ensures.past ∙ c.in-Ok.ensures.past ∙ kept.marked _ _ c.mark-mark.ensures.past) (c.mark-mark.ensures.number ∙ sym (kept.count _))
    (kept.back _ _ _ c.undo_to.ensures.content)

pub returns-clause-past : goal.returns-clause-past
returns-clause-past g c =
    let kept = g.met.N.Network.kept_by_marks in
    let past = g.N.Network.reading.past c.args.net.now in
    let marked = c.in-Err.ensures.past ∙ c.in-Ok.ensures.past ∙ kept.marked _ _ c.mark-mark.ensures.past in
    let number : c.mark-mark.result.0 ≡ length past = c.mark-mark.ensures.number ∙ sym (kept.count _) in
    kept.fewer _ _ _ c.undo_to.ensures.past ∙ ap (take c.mark-mark.result.0) marked ∙ take-append-le c.mark-mark.result.0 past _ (omega arith) ∙ take_all c.mark-mark.result.0 past (omega arith)

pub returns-clause-same_size : goal.returns-clause-same_size
returns-clause-same_size g c =
    let kept = g.met.N.Network.kept_by_marks in
    let point = c.in-Ok.ensures.same_size in
    let edge = c.in-Err.ensures.same_size in
    record {
      marks = same-marks kept _ _ c.undo_to.ensures.capacity ∙ edge.marks ∙ point.marks ∙ same-marks kept _ _ c.mark-mark.ensures.capacity;
      points = g.met.N.Network.points_by_untouched _ _ c.undo_to.ensures.untouched ∙ edge.points ∙ point.points ∙ g.met.N.Network.points_by_untouched _ _ c.mark-mark.ensures.untouched;
      edges = g.met.N.Network.edges_by_untouched _ _ c.undo_to.ensures.untouched ∙ edge.edges ∙ point.edges ∙ g.met.N.Network.edges_by_untouched _ _ c.mark-mark.ensures.untouched;
    }
