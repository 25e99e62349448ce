use Rattle.tp_farm.proofs.SentEvents.{IsSending}
use Rattle.tp_farm.proofs.dispatch.send.Given as goal

abbrev pub invariant-loop-at : goal.invariant-loop-at
invariant-loop-at g l = IsSending g.T.Teller.state g.T.Teller.text g.T.Teller.answered g.T.Teller.tells l.whom l.event l.initial.tellers.items l.initial.out.items l.at l.tellers.items l.out.items
