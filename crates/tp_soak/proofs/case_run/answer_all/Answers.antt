-- The events so far are answered, and then all of them.
use Rattle.std.proofs.Common.{arith}
use Rattle.tp_soak.proofs.AnsweredEvents.{leads_all, leads_at, leads_first}
use Rattle.tp_soak.proofs.case_run.answer_all.Goals as goal

pub loop-event-init : goal.loop-event-init
loop-event-init c = record { answered = omega arith; leads = leads_first _ _ _ c.requires.clear }

pub loop-event-preserved : goal.loop-event-preserved
loop-event-preserved c =
    let told = c.in_ok-event.ensures.told in
    record {
      answered = omega (arith, c.in_ok-event.ensures.counted, c.loop-event.invariant.answered);
      leads = leads_at c.args.session.now.standing c.loop-event.session.standing c.event.new.self.standing c.args.events.now c.loop-event.event-index c.event-item.result c.loop-event.session.text told.0 c.event.new.self.text
          c.loop-event-test.true c.event-item.is c.loop-event.invariant.leads told.1 told.2;
    }

pub returns : goal.returns
returns c = leads_all c.args.session.now.standing c.loop-event.session.standing c.args.events.now c.loop-event.event-index c.loop-event.session.text c.loop-event-test.false c.loop-event.invariant.leads
