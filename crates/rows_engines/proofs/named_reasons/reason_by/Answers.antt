use Rattle.std.proofs.Common.{arith}
use Rattle.tp_placing.specs.Boards.{suffix_of}
use Rattle.rows_engines.proofs.ReasonFacts.{is_told-end_reason}
use Rattle.rows_engines.proofs.named_reasons.reason_by.Goals as goal

pub refuse_end-requires-clause-below : goal.refuse_end-requires-clause-below
refuse_end-requires-clause-below g c =
    let on = c.requires.stands in
    (on.0, c.end_bound.result, on.1, c.end_bound.ensures on.0 on.1, omega (arith, c.if-end_bound-last.false))

pub reason_of-requires-clause-stands : goal.reason_of-requires-clause-stands
reason_of-requires-clause-stands g c =
    let on = c.requires.stands in
    (on.0, c.refuse_end.ensures.stands on.0 on.1)

pub reason_of-requires-clause-told : goal.reason_of-requires-clause-told
reason_of-requires-clause-told g c =
    let on = c.requires.stands in
    is_told-end_reason c.refuse_end.new.self g.N.Network.refutes on.0 (suffix_of c.refuse_end.new.self) c.args.last (c.refuse_end.ensures.shown on.0 on.1)
