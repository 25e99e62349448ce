use Rattle.std.proofs.Common.{◌∙◌, sym}
use Rattle.tp_placing.proofs.NetworkFacts.{can-mark, same-marks}
use Rattle.rows_engines.proofs.network_probes.set_mark.Goals as goal

pub mark-requires : goal.mark-requires
mark-requires g c = can-mark g.met.N.Network.kept_by_marks c.args.net.now c.requires

pub returns-clause-number : goal.returns-clause-number
returns-clause-number g c = c.mark.ensures.number ∙ sym (g.met.N.Network.kept_by_marks.count c.args.net.now)

pub returns-clause-past : goal.returns-clause-past
returns-clause-past g c = g.met.N.Network.kept_by_marks.marked _ _ c.mark.ensures.past

pub returns-clause-net : goal.returns-clause-net
returns-clause-net g c = g.met.N.Network.kept_by_marks.same _ _ c.mark.ensures.content

pub returns-clause-marks : goal.returns-clause-marks
returns-clause-marks g c = same-marks g.met.N.Network.kept_by_marks _ _ c.mark.ensures.capacity

pub returns-clause-points : goal.returns-clause-points
returns-clause-points g c = g.met.N.Network.points_by_untouched _ _ c.mark.ensures.untouched

pub returns-clause-edges : goal.returns-clause-edges
returns-clause-edges g c = g.met.N.Network.edges_by_untouched _ _ c.mark.ensures.untouched
