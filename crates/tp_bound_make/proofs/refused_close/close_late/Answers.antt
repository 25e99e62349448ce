use Rattle.tp_bound_make.specs.Closes.{ClosesRefused}
use Rattle.tp_bound_make.specs.TellableReasons.{IsToldReason}
use Rattle.tp_bound_make.proofs.CloseFacts.{late-told, late-tellable}
use Rattle.tp_bound_make.proofs.ReasonFacts.{ok-map}
use Rattle.tp_bound_make.proofs.refused_close.close_late.Goals as goal

pub close_of-requires-clause-reason : goal.close_of-requires-clause-reason
close_of-requires-clause-reason g c =
    let r = c.requires.refused.1 in
    late-tellable g.N.Network.reading g.N.Network.refutes c.args.machine.now c.args.board.now c.requires.stands c.requires.named c.requires.refused.0 r.few r.shown

pub returns : goal.returns
returns g c =
    ok-map (IsToldReason g.N.Network.refutes c.args.machine.now c.args.board.now) (ClosesRefused g.N.Network.refutes c.args.machine.now c.args.board.now) c.close_of.result
    (late-told g.N.Network.reading g.N.Network.refutes c.args.machine.now c.args.board.now c.requires.stands c.requires.named) c.close_of.ensures
