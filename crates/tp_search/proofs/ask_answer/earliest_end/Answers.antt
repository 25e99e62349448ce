-- The trial ends where the earliest plans of the whole schedule end.
use Rattle.std.proofs.Common.{sym, subst, rules}
use Rattle.tp_search.specs.Boards.{IsAtRest}
use Rattle.tp_search.specs.Trials.{EndsEarliest}
use Rattle.tp_search.proofs.TrialFacts.{as-left, at-rest}
use Rattle.tp_search.proofs.ask_answer.earliest_end.Goals as goal

pub returns-in-Ok-clause-end : goal.returns-in-Ok-clause-end
returns-in-Ok-clause-end g c plans from = subst (EndsEarliest c.args.machine.now plans c.args.ask.now) (sym c.end-end.ensures) (c.in-Ok.ensures.end plans from)

pub returns-in-Ok-clause-rests : goal.returns-in-Ok-clause-rests
returns-in-Ok-clause-rests g c =
    let back = c.abandon.ensures.back c.args.board.now c.args.machine.now c.in-Ok.ensures.trial in
    subst (λ b. IsAtRest g.N.Network.reading b c.args.machine.now) (as-left c.abandon.new.self.0 _ (search rules))
    (at-rest g.N.Network.reading c.args.board.now c.abandon.new.self.0 c.args.machine.now c.requires.rests back)
