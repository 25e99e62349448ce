use Rattle.tp_bound_make.specs.Closes.{ClosesEnd}
use Rattle.tp_bound_make.specs.TellableReasons.{IsToldReason}
use Rattle.tp_bound_make.proofs.CloseFacts.{end-told, end-tellable}
use Rattle.tp_bound_make.proofs.ReasonFacts.{ok-map}
use Rattle.tp_bound_make.proofs.refused_close.close_end.Goals as goal

pub close_of-requires-clause-reason : goal.close_of-requires-clause-reason
close_of-requires-clause-reason g c =
    let r = c.requires.refused.1 in
    end-tellable g.N.Network.reading g.N.Network.refutes c.args.machine.now c.args.board.now c.requires.stands c.requires.named c.requires.refused.0 c.args.last r.few r.shown

pub returns : goal.returns
returns g c =
    ok-map (IsToldReason g.N.Network.refutes c.args.machine.now c.args.board.now) (ClosesEnd g.N.Network.refutes c.args.machine.now c.args.board.now c.args.last) c.close_of.result
    (end-told g.N.Network.reading g.N.Network.refutes c.args.machine.now c.args.board.now c.requires.stands c.requires.named c.args.last) c.close_of.ensures
