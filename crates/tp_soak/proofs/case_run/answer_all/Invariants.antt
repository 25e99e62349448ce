use Rattle.std.proofs.Common.{◌≡◌, ◌+◌, drop}
use Rattle.tp_soak.proofs.AnsweredEvents.{Leads}
use Rattle.tp_soak.proofs.case_run.answer_all.Given as goal

abbrev pub invariant-loop-event : goal.invariant-loop-event
invariant-loop-event l = record {
  answered : l.session.answered ≡ l.initial.session.answered + l.event-index;
  leads : Leads l.initial.session.standing l.events l.session.text l.session.standing (drop l.event-index l.events);
}
