use Rattle.std.proofs.Common.{◌≡◌, ◌++◌, ◌+◌, length, take, ap, sym, ◌∙◌, subst, arith}
use Rattle.std.proofs.lemmas.List.{take_all}
use Rattle.std.proofs.Math.Seq.{take-append_seam}
use Rattle.tp_base.specs.Net.{HasNoSolution, with_edges}
use Rattle.tp_placing.specs.Edges.{edge_after, edge_until}
use Rattle.tp_placing.proofs.TryFacts.{edges-twice, late-fewer}
use Rattle.tp_placing.proofs.place_walk.require_around.Goals as goal

pub returns-in-Err-clause-late : goal.returns-in-Err-clause-late
returns-in-Err-clause-late g c =
    let net = g.N.Network.reading.net c.args.net.now in
    let until = edge_until c.args.gap c.args.new.now c.args.neighbours.now.behind (c.args.tag + 1) in
    let after = edge_after c.args.gap c.args.neighbours.now.before c.args.new.now c.args.tag in
    late-fewer net (until ++ after) (length until) (subst (λ es. HasNoSolution (with_edges net es)) (sym (take-append_seam until after)) c.in-Err.ensures.late)

pub returns-in-Err-require_after-clause-late : goal.returns-in-Err-require_after-clause-late
returns-in-Err-require_after-clause-late g c =
    let net = g.N.Network.reading.net c.args.net.now in
    let until = edge_until c.args.gap c.args.new.now c.args.neighbours.now.behind (c.args.tag + 1) in
    let after = edge_after c.args.gap c.args.neighbours.now.before c.args.new.now c.args.tag in
    subst HasNoSolution (ap (λ n. with_edges n after) c.in-Ok.ensures.added ∙ edges-twice net until after) c.in-Err-require_after.ensures.late

pub returns-in-Err-require_after-clause-refused : goal.returns-in-Err-require_after-clause-refused
returns-in-Err-require_after-clause-refused g c =
    let net = g.N.Network.reading.net c.args.net.now in
    let until = edge_until c.args.gap c.args.new.now c.args.neighbours.now.behind (c.args.tag + 1) in
    let after = edge_after c.args.gap c.args.neighbours.now.before c.args.new.now c.args.tag in
    let all : take (length (until ++ after)) (until ++ after) ≡ until ++ after = take_all (length (until ++ after)) (until ++ after) (omega arith) in
    let same : with_edges (g.N.Network.reading.net c.require_until.new.net) after ≡ with_edges net (take (length (until ++ after)) (until ++ after)) =
    ap (λ n. with_edges n after) c.in-Ok.ensures.added ∙ edges-twice net until after ∙ ap (with_edges net) (sym all) in
    record { count = length (until ++ after); within = omega arith; shown = subst (g.N.Network.refutes c.require_after.new.net) same c.in-Err-require_after.ensures.refused }
