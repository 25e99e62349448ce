use Rattle.std.proofs.Common.{◌≡◌, [], ◌∷◌, ap, sym, ◌∙◌, subst}
use Rattle.tp_base.specs.Net.{HasNoSolution, with_edges}
use Rattle.tp_placing.specs.Edges.{edge_after}
use Rattle.tp_placing.proofs.place_walk.require_after.Goals as goal

pub returns-in-Err-clause-late : goal.returns-in-Err-clause-late
returns-in-Err-clause-late g c =
    let e : edge_after c.args.gap c.args.before.now c.args.new.now c.args.tag ≡ c.following.result ∷ [] = ap (λ o. edge_after c.args.gap o c.args.new.now c.args.tag) c.in-Some.is ∙ ap (λ e. e ∷ []) (sym c.following.ensures) in
    subst (λ es. HasNoSolution (with_edges (g.N.Network.reading.net c.args.net.now) es)) (sym e) c.in-Err.ensures.late
