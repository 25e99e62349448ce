use Rattle.tp_windows.proofs.FrontSteps.{front-taken}
use Rattle.tp_windows.proofs.way_search.go_on.Goals as goal

pub returns-then-spread-clause-done : goal.returns-then-spread-clause-done
returns-then-spread-clause-done c = λ done before.
    front-taken c.args.sought c.args.front.now c.spread.new.front c.args.first c.args.from c.requires.there before c.take.new.self c.take.ensures c.spread.ensures.grows c.requires.goal (c.spread.ensures.reached c.if-spread.true)
