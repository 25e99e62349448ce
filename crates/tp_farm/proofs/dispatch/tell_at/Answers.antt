-- The event is not for this teller.
use Rattle.std.proofs.Common.{sym, ◌∙◌}
use Rattle.tp_farm.proofs.SentEvents.{told-none}
use Rattle.tp_farm.proofs.dispatch.tell_at.Goals as goal

pub returns-else-has : goal.returns-else-has
returns-else-has g c =
    told-none g.T.Teller.state g.T.Teller.text g.T.Teller.answered g.T.Teller.tells c.args.whom c.args.event.now c.args.tellers.now.items c.args.out.now.items c.args.at
    c.requires.at (sym c.has.ensures ∙ c.if-has.false) (λ d. (c.requires.ready d).0)
