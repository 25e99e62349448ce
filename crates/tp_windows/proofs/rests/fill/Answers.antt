use Rattle.std.proofs.Common.{arith}
use Rattle.tp_windows.proofs.RestFacts.{is-rest}
use Rattle.tp_windows.proofs.rests.fill.Goals as goal

pub returns-then-not-lower_once : goal.returns-then-not-lower_once
returns-then-not-lower_once c = λ done.
    let long = c.lower_once.auto.rests in
    let same = c.passes.auto.rests in
    let marked = c.mark_goals.auto.rests in
    let states = c.requires.states in
    is-rest c.args.machine.now c.args.ask.now c.lower_once.new.rests c.requires.goal (omega (arith, long, same, marked, states))
    (λ n less is. c.lower_once.ensures.goals n (c.passes.invariant n (omega (arith, less, long)) is))
    (c.lower_once.ensures.closed c.if-not-lower_once.true)
