use Rattle.std.proofs.Common.{[], ◌∷◌, ◌++◌, refl, ap, subst, sym, ◌∙◌}
use Rattle.tp_base.specs.Grows.{IsKnown}
use Rattle.tp_windows.proofs.ListSteps.{all_next, take_next}
use Rattle.tp_windows.proofs.edge_links.link_edges.Goals as goal

pub edges-preserved : goal.edges-preserved
edges-preserved g c =
    let all = (g.N.Network.reading.net c.args.net.now).edges in
    let edge = c.edge-edge.result in
    let is = c.edge-edge.ensures.found in
    record {
      edges = c.if-not-add_link.ensures.edges refl ∙ ap (λ es. es ++ edge ∷ []) c.edges.invariant.edges ∙ sym (take_next all c.edges.number edge is);
      heads = c.add_link.ensures.heads;
      falling = c.add_link.ensures.falling;
      known = all_next (IsKnown c.args.points) all c.edges.number edge is c.edges.invariant.known (subst (λ n. IsKnown n edge) (sym c.requires.points) c.edge-edge.ensures.known);
    }
