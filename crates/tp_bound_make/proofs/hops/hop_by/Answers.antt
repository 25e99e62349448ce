use Rattle.std.proofs.Common.{sym, ◌∙◌}
use Rattle.std.specs.Prelude.{slice_get}
use Rattle.tp_placing.specs.Causes.{kind_of}
use Rattle.tp_bound_make.proofs.NameFacts.{known-why, why-told}
use Rattle.tp_bound_make.proofs.hops.hop_by.Goals as goal

pub hop_why-requires : goal.hop_why-requires
hop_why-requires g c =
    let b = c.args.board.now in
    known-why c.args.machine.now b.plans b.limit c.args.edge.to (kind_of b.plans (slice_get b.causes c.args.edge.tag)) c.why_of-why.result c.why_of-why.ensures c.requires.tellable.can

pub returns : goal.returns
returns g c =
    let b = c.args.board.now in
    c.hop_why.ensures
    ∙ sym (why-told c.args.machine.now b.plans b.limit c.args.edge.to c.point_by-to.result (kind_of b.plans (slice_get b.causes c.args.edge.tag)) c.why_of-why.result c.why_of-why.ensures c.requires.tellable.can c.point_by-to.ensures)
