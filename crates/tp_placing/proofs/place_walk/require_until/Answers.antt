use Rattle.std.proofs.Common.{◌≡◌, [], ◌∷◌, ap, sym, ◌∙◌, subst}
use Rattle.tp_base.specs.Net.{HasNoSolution, with_edges}
use Rattle.tp_placing.specs.Edges.{edge_until}
use Rattle.tp_placing.proofs.place_walk.require_until.Goals as goal

pub returns-in-Err-clause-late : goal.returns-in-Err-clause-late
returns-in-Err-clause-late g c =
    let e : edge_until c.args.gap c.args.new.now c.args.behind.now c.args.tag ≡ c.following.result ∷ [] = ap (λ o. edge_until c.args.gap c.args.new.now o c.args.tag) c.in-Some.is ∙ ap (λ e. e ∷ []) (sym c.following.ensures) in
    subst (λ es. HasNoSolution (with_edges (g.N.Network.reading.net c.args.net.now) es)) (sym e) c.in-Err.ensures.late
