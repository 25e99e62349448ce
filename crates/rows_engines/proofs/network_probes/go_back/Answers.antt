use Rattle.tp_placing.proofs.NetworkFacts.{can-undo, same-marks}
use Rattle.rows_engines.proofs.network_probes.go_back.Goals as goal

pub undo_to-requires : goal.undo_to-requires
undo_to-requires g c = can-undo g.met.N.Network.kept_by_marks c.args.net.now c.args.mark.0 c.requires

pub returns-clause-net : goal.returns-clause-net
returns-clause-net g c = g.met.N.Network.kept_by_marks.back _ _ c.args.mark.0 c.undo_to.ensures.content

pub returns-clause-past : goal.returns-clause-past
returns-clause-past g c = g.met.N.Network.kept_by_marks.fewer _ _ c.args.mark.0 c.undo_to.ensures.past

pub returns-clause-marks : goal.returns-clause-marks
returns-clause-marks g c = same-marks g.met.N.Network.kept_by_marks _ _ c.undo_to.ensures.capacity

pub returns-clause-points : goal.returns-clause-points
returns-clause-points g c = g.met.N.Network.points_by_untouched _ _ c.undo_to.ensures.untouched

pub returns-clause-edges : goal.returns-clause-edges
returns-clause-edges g c = g.met.N.Network.edges_by_untouched _ _ c.undo_to.ensures.untouched
