-- One teller after another is probed.
use Rattle.std.proofs.Common.{◌+◌, ◌<◌, length, sym, subst, ◌∙◌, arith}
use Rattle.tp_farm.proofs.SentEvents.{IsProbing, probed-ready, probed-states, probing-count, probing-more}
use Rattle.tp_farm.proofs.dispatch.probe_all.Goals as goal

pub returns-in_err-push-in-Ok-clause-states : goal.returns-in_err-push-in-Ok-clause-states
returns-in_err-push-in-Ok-clause-states g c =
    let inside : c.loop-at.at < length c.loop-at.tellers.items = omega arith in
    probed-states g.T.Teller.state g.T.Teller.text g.T.Teller.answered g.T.Teller.probes c.args.event.now c.loop-at.tellers.items c.probe_at.new.tellers.items c.loop-at.at c.probe_at.result inside c.probe_at.ensures
    ∙ c.loop-at.invariant.states

pub returns-in_err-push-in-Ok-clause-ready : goal.returns-in_err-push-in-Ok-clause-ready
returns-in_err-push-in-Ok-clause-ready g c = λ most h.
    let inside : c.loop-at.at < length c.loop-at.tellers.items = omega arith in
    probed-ready g.T.Teller.state g.T.Teller.text g.T.Teller.answered g.T.Teller.probes c.args.event.now most c.loop-at.tellers.items c.probe_at.new.tellers.items c.loop-at.at c.probe_at.result inside c.probe_at.ensures
    (c.loop-at.invariant.ready most h)

pub returns-in-Err-clause-states : goal.returns-in-Err-clause-states
returns-in-Err-clause-states g c =
    let inside : c.loop-at.at < length c.loop-at.tellers.items = omega arith in
    probed-states g.T.Teller.state g.T.Teller.text g.T.Teller.answered g.T.Teller.probes c.args.event.now c.loop-at.tellers.items c.probe_at.new.tellers.items c.loop-at.at c.probe_at.result inside c.probe_at.ensures
    ∙ c.loop-at.invariant.states

pub returns-in-Err-clause-ready : goal.returns-in-Err-clause-ready
returns-in-Err-clause-ready g c = λ most h.
    let inside : c.loop-at.at < length c.loop-at.tellers.items = omega arith in
    probed-ready g.T.Teller.state g.T.Teller.text g.T.Teller.answered g.T.Teller.probes c.args.event.now most c.loop-at.tellers.items c.probe_at.new.tellers.items c.loop-at.at c.probe_at.result inside c.probe_at.ensures
    (c.loop-at.invariant.ready most h)

pub loop-at-preserved : goal.loop-at-preserved
loop-at-preserved g c =
    let inside : c.loop-at.at < length c.loop-at.tellers.items = omega arith in
    subst (IsProbing g.T.Teller.state g.T.Teller.text g.T.Teller.answered g.T.Teller.probes c.args.event.now c.args.tellers.now.items (c.loop-at.at + 1) c.probe_at.new.tellers.items)
    (sym c.in_ok-push-in-Ok.ensures.items)
    (probing-more g.T.Teller.state g.T.Teller.text g.T.Teller.answered g.T.Teller.probes c.args.event.now c.args.tellers.now.items c.loop-at.tellers.items c.probe_at.new.tellers.items c.loop-at.at c.loop-at.answers.items c.in-Ok.answer
    inside c.loop-at.invariant c.in-Ok.ensures)

pub returns-clause-count : goal.returns-clause-count
returns-clause-count g c =
    probing-count g.T.Teller.state g.T.Teller.text g.T.Teller.answered g.T.Teller.probes c.args.event.now c.args.tellers.now.items c.loop-at.tellers.items c.loop-at.at c.loop-at.answers.items (omega arith) c.loop-at.invariant
