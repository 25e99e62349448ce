-- One session after another is given the event.
use Rattle.std.proofs.Common.{◌≡◌, ◌<◌, [], length, sym, ap, subst, ◌∙◌, arith}
use Rattle.std.proofs.lemmas.List.{length-set}
use Rattle.tp_stream.specs.Tellers.{most_events}
use Rattle.tp_farm.proofs.SentEvents.{at-place, sending-more, sent-ready}
use Rattle.tp_farm.proofs.dispatch.send.Goals as goal

pub tell_at-requires-clause-ready : goal.tell_at-requires-clause-ready
tell_at-requires-clause-ready g c = λ d.
    let inside : c.loop-at.at < length c.args.tellers.now.items = omega arith in
    subst (λ t. (g.T.Teller.text t ≡ []) × (g.T.Teller.answered t < most_events)) (sym (at-place c.args.tellers.now.items c.loop-at.tellers.items c.loop-at.at d c.loop-at.invariant.same))
    (c.requires.few c.loop-at.at d inside)

pub returns-in-Err-clause-ready : goal.returns-in-Err-clause-ready
returns-in-Err-clause-ready g c =
    let inside : c.loop-at.at < length c.loop-at.tellers.items = omega arith in
    sent-ready g.T.Teller.state g.T.Teller.text g.T.Teller.answered g.T.Teller.tells c.args.whom c.args.event.now c.args.tellers.now.items c.loop-at.tellers.items c.tell_at.new.tellers.items
    c.args.out.now.items c.loop-at.out.items c.tell_at.new.out.items c.loop-at.at c.tell_at.result inside c.loop-at.invariant c.tell_at.ensures

pub returns-in-Err-clause-count : goal.returns-in-Err-clause-count
returns-in-Err-clause-count g c = ap length c.tell_at.ensures.put ∙ length-set c.loop-at.tellers.items c.loop-at.at c.tell_at.ensures.teller ∙ c.loop-at.invariant.count

pub loop-at-preserved : goal.loop-at-preserved
loop-at-preserved g c =
    let inside : c.loop-at.at < length c.loop-at.tellers.items = omega arith in
    sending-more g.T.Teller.state g.T.Teller.text g.T.Teller.answered g.T.Teller.tells c.args.whom c.args.event.now c.args.tellers.now.items c.loop-at.tellers.items c.tell_at.new.tellers.items
    c.args.out.now.items c.loop-at.out.items c.tell_at.new.out.items c.loop-at.at inside c.loop-at.invariant c.in-Ok.ensures
