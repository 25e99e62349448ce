use Rattle.tp_farm.proofs.SentEvents.{IsProbing}
use Rattle.tp_farm.proofs.dispatch.probe_all.Given as goal

abbrev pub invariant-loop-at : goal.invariant-loop-at
invariant-loop-at g l = IsProbing g.T.Teller.state g.T.Teller.text g.T.Teller.answered g.T.Teller.probes l.event l.initial.tellers.items l.at l.tellers.items l.answers.items
