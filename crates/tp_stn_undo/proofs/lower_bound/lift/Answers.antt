use Rattle.std.proofs.Common.{arith, List, Bool, set, sym, subst}
use Rattle.tp_stn_undo.specs.declared.point_state.PointState.{PointState}
use Rattle.tp_stn_undo.specs.RaisedBounds.{Lifts}
use Rattle.tp_stn_undo.proofs.CauseFacts.{no_state, slice_get_at}
use Rattle.tp_stn_undo.proofs.LiftFacts.{lifts_same, lifts_more}
use Rattle.tp_stn_undo.proofs.lower_bound.lift.Goals as goal

pub returns-then-low-state-clause-lifts : goal.returns-then-low-state-clause-lifts
returns-then-low-state-clause-lifts c = lifts_same c.args.states.now c.args.point.0 c.args.low c.requires.known c.requires.more c.args.waiting.now.flags c.if-low-state.true

pub returns-then-low-state-clause-back : goal.returns-then-low-state-clause-back
returns-then-low-state-clause-back c = c.note.ensures.back c.args.states.now _ (slice_get_at c.args.states.now c.args.point.0 no_state c.requires.known)

pub returns-clause-lifts : goal.returns-clause-lifts
returns-clause-lifts c =
    let k = c.requires.known in
    let w = c.requires.waits in
    let states' : List PointState = set c.args.states.now c.args.point.0 (record { low = c.args.low; time = c.args.low; cause = 0 }) in
    subst (λ (fs : List Bool). Lifts c.args.states.now states' c.args.point.0 c.args.low c.args.waiting.now.flags fs) (sym c.push.ensures.flags)
    (lifts_more c.args.states.now c.args.point.0 c.args.low k c.requires.more c.args.waiting.now.flags (omega arith) (let f = c.if-low-state.false in omega arith))

pub returns-clause-back : goal.returns-clause-back
returns-clause-back c = c.note.ensures.back c.args.states.now _ (slice_get_at c.args.states.now c.args.point.0 no_state c.requires.known)
