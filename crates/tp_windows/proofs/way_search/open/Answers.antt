use Rattle.std.proofs.Common.{sym, ◌∙◌}
use Rattle.tp_windows.proofs.FrontSteps.{front-cut}
use Rattle.tp_windows.proofs.way_search.open.Goals as goal

pub returns-then-does_begin_in-clause-done : goal.returns-then-does_begin_in-clause-done
returns-then-does_begin_in-clause-done c = λ done before.
    front-cut c.args.sought c.args.front.now c.cut.new.front c.args.first c.args.from c.requires.there before c.in-Some.stay (sym c.stay_in.ensures ∙ c.in-Some.is) (c.does_begin_in.ensures.from c.if-does_begin_in.true) c.cut.ensures.grows (c.cut.ensures.rest done)
