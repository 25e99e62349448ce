use Rattle.std.proofs.Common.{◌≡◌, ◌+◌, ◌++◌, ◌∷◌, [], length, get_or, ap, sym, ◌∙◌, arith}
use Rattle.std.proofs.lemmas.List.{take_all, take_more}
use Rattle.tp_base.proofs.LeastFacts.{earliest-is}
use Rattle.tp_schedule.specs.Times.{ticks_from}
use Rattle.tp_placing.proofs.WriteTimes.{ticks-get, ticks-more}
use Rattle.tp_placing.proofs.schedule_times.have_times.Goals as goal

pub loop-at-preserved : goal.loop-at-preserved
loop-at-preserved g c = λ sol l.
    let known = c.requires.known in
    let within = c.loop-at-test.true in
    let e : c.earliest.result ≡ sol (c.args.first.0 + c.loop-at.at) = earliest-is (g.N.Network.reading.net c.args.net.now) sol (c.args.first.0 + c.loop-at.at) c.earliest.result l (omega arith) c.earliest.ensures in
    let same = c.if-earliest-time.false in
    let time : get_or c.args.times.now c.loop-at.at 0 ≡ sol (c.args.first.0 + c.loop-at.at) = omega (arith, e, same) in
    take_more c.args.times.now c.loop-at.at 0 within ∙ (λ i. c.loop-at.invariant sol l i ++ time i ∷ []) ∙ sym (ticks-more sol c.args.first.0 c.loop-at.at)

pub returns-clause-same : goal.returns-clause-same
returns-clause-same g c = λ e sol l.
    let past = c.loop-at-test.false in
    let within = c.loop-at.auto.at-end in
    let at : c.loop-at.at ≡ length c.args.times.now = omega arith in
    sym (take_all c.loop-at.at c.args.times.now (omega arith)) ∙ c.loop-at.invariant sol l ∙ ap (λ k. ticks_from sol c.args.first.0 k) at

pub returns-then-earliest-time-clause-other : goal.returns-then-earliest-time-clause-other
returns-then-earliest-time-clause-other g c = λ no sol l is.
    let known = c.requires.known in
    let within = c.loop-at-test.true in
    let e : c.earliest.result ≡ sol (c.args.first.0 + c.loop-at.at) = earliest-is (g.N.Network.reading.net c.args.net.now) sol (c.args.first.0 + c.loop-at.at) c.earliest.result l (omega arith) c.earliest.ensures in
    let time : get_or c.args.times.now c.loop-at.at 0 ≡ sol (c.args.first.0 + c.loop-at.at) = ap (λ ts. get_or ts c.loop-at.at 0) is ∙ ticks-get sol c.args.first.0 (length c.args.times.now) c.loop-at.at 0 within in
    c.if-earliest-time.true (e ∙ sym time)
