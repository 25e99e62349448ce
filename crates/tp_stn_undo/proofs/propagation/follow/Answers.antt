use Rattle.std.proofs.Common.{arith}
use Rattle.tp_stn_undo.proofs.FollowFacts.{none_of, risen_causes, risen_circle, passed_causes, passed_chain, passed_circle}
use Rattle.tp_stn_undo.proofs.RaiseFacts.{known, times_len}
use Rattle.tp_stn_undo.proofs.propagation.follow.Goals as goal

pub trace_causes-requires-clause-known : goal.trace_causes-requires-clause-known
trace_causes-requires-clause-known c =
    let k = known c.args.links.now c.args.states.now c.args.pull.number c.requires.asks.some c.requires.asks.within c.requires.ready.bounded.known in
    let to = k.to in
    let n = c.raise_along.ensures.back.len in
    omega arith

pub trace_causes-requires-clause-causes : goal.trace_causes-requires-clause-causes
trace_causes-requires-clause-causes c =
    risen_causes c.args.links.now c.args.states.now c.raise_along.new.states c.args.caps.now c.requires.ready.supported c.raise_along.ensures.back.len c.in-Ok.ensures.follows.rises

pub returns-then-is_none-clause-refuted : goal.returns-then-is_none-clause-refuted
returns-then-is_none-clause-refuted c =
    risen_circle c.args.links.now c.args.states.now c.raise_along.new.states c.args.caps.now c.requires.ready.supported c.raise_along.ensures.back.len c.in-Ok.ensures.follows.rises c.trace_causes.new.path.items
    (none_of c.trace_causes.result _ c.trace_causes.ensures.circle c.if-is_none.ensures)

pub trace_causes-requires-in-Err-clause-causes : goal.trace_causes-requires-in-Err-clause-causes
trace_causes-requires-in-Err-clause-causes c =
    passed_causes c.args.links.now c.args.states.now c.raise_along.new.states c.args.caps.now c.requires.ready.supported c.raise_along.ensures.back.len c.in-Err.point.0 c.in-Err.ensures.late

pub returns-in-Some-clause-refuted : goal.returns-in-Some-clause-refuted
returns-in-Some-clause-refuted c =
    passed_chain c.args.links.now c.args.states.now c.raise_along.new.states c.args.caps.now c.requires.ready.supported c.raise_along.ensures.back.len c.in-Err.point.0 c.in-Err.ensures.late c.in-Some.first.0 c.trace_causes-in-Err.new.path.items c.in-Some.ensures.chain

pub returns-in-None-clause-refuted : goal.returns-in-None-clause-refuted
returns-in-None-clause-refuted c =
    passed_circle c.args.links.now c.args.states.now c.raise_along.new.states c.args.caps.now c.requires.ready.supported c.raise_along.ensures.back.len c.in-Err.point.0 c.in-Err.ensures.late c.trace_causes-in-Err.new.path.items c.in-None.ensures.circle

pub trace_causes-requires-in-Err-clause-known : goal.trace_causes-requires-in-Err-clause-known
trace_causes-requires-in-Err-clause-known c =
    let k = c.in-Err.ensures.late.known in
    let l = times_len c.args.states.now in
    let n = c.raise_along.ensures.back.len in
    omega arith
