use Rattle.tp_constraints.specs.Suffixes.{with_stop}
use Rattle.tp_bound_make.specs.Closes.{ClosesStop}
use Rattle.tp_bound_make.specs.TellableReasons.{IsToldReason}
use Rattle.tp_bound_make.proofs.CloseFacts.{stop-told, late-tellable}
use Rattle.tp_bound_make.proofs.ReasonFacts.{ok-map}
use Rattle.tp_bound_make.proofs.refused_close.close_stop.Goals as goal

pub close_of-requires-clause-reason : goal.close_of-requires-clause-reason
close_of-requires-clause-reason g c =
    let r = c.requires.refused.1 in
    late-tellable g.N.Network.reading g.N.Network.refutes c.args.machine.now c.args.board.now c.requires.stands c.requires.named (with_stop c.requires.refused.0) r.few r.shown

pub returns : goal.returns
returns g c =
    ok-map (IsToldReason g.N.Network.refutes c.args.machine.now c.args.board.now) (ClosesStop g.N.Network.refutes c.args.machine.now c.args.board.now) c.close_of.result
    (stop-told g.N.Network.reading g.N.Network.refutes c.args.machine.now c.args.board.now c.requires.stands c.requires.named) c.close_of.ensures
