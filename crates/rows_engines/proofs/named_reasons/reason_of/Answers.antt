use Rattle.std.proofs.Common.{◌<◌, length}
use Rattle.tp_base.specs.declared.edges.Edge.{Edge}
use Rattle.tp_constraints.proofs.Lists.{all-by}
use Rattle.rows_engines.proofs.named_reasons.reason_of.Goals as goal

pub edge_names-requires-clause-causes : goal.edge_names-requires-clause-causes
edge_names-requires-clause-causes g c =
    let told = c.requires.told in
    all-by (λ (e : Edge). e.tag < length c.args.board.now.causes) c.in-Chain.edges.now told.net.edges (c.in-Chain.ensures told.net told.shown).in_net told.causes

pub edge_names-requires-in-Circle-clause-causes : goal.edge_names-requires-in-Circle-clause-causes
edge_names-requires-in-Circle-clause-causes g c =
    let told = c.requires.told in
    all-by (λ (e : Edge). e.tag < length c.args.board.now.causes) c.in-Circle.edges.now told.net.edges (c.in-Circle.ensures told.net told.shown).in_net told.causes
