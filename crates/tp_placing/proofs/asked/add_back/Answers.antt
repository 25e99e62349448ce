use Rattle.std.proofs.Common.{◌≡◌, suc, ◌+◌, ◌-◌, ◌++◌, ◌∷◌, [], length, ap, sym, ◌∙◌, arith}
use Rattle.std.proofs.lemmas.List.{append_assoc, length-append}
use Rattle.tp_base.proofs.LeastFacts.{earliest-is}
use Rattle.tp_schedule.specs.Times.{ticks_from}
use Rattle.tp_placing.specs.Commits.{back_from}
use Rattle.tp_placing.proofs.WriteTimes.{ticks-more}
use Rattle.tp_placing.proofs.asked.add_back.Goals as goal

pub loop-at-preserved : goal.loop-at-preserved
loop-at-preserved g c = record {
  times = λ sol l.
      let known = c.requires.known in
      let e : c.earliest.result ≡ sol (c.args.first.0 - c.loop-at.at) = earliest-is (g.N.Network.reading.net c.args.net.now) sol (c.args.first.0 - c.loop-at.at) c.earliest.result l (omega arith) c.earliest.ensures in
      let zero : c.loop-at.at ≡ 0 + c.loop-at.at = omega arith in
      c.push.ensures.pushed
      ∙ (λ i. c.loop-at.invariant.times sol l i ++ e i ∷ [])
      ∙ append_assoc c.args.points.now (ticks_from (back_from sol c.args.first.0) 0 c.loop-at.at) (sol (c.args.first.0 - c.loop-at.at) ∷ [])
      ∙ ap (λ ts. c.args.points.now ++ ts) (ap (λ k. ticks_from (back_from sol c.args.first.0) 0 c.loop-at.at ++ sol (c.args.first.0 - k) ∷ []) zero ∙ sym (ticks-more (back_from sol c.args.first.0) 0 c.loop-at.at));
  count = let n = ap length c.push.ensures.pushed ∙ length-append c.loop-at.points (c.earliest.result ∷ []) in let m = c.loop-at.invariant.count in omega arith;
}

pub returns-clause-times : goal.returns-clause-times
returns-clause-times g c sol l =
    let past = c.loop-at-test.false in
    let all : c.loop-at.at ≡ suc c.args.count = omega arith in
    c.loop-at.invariant.times sol l ∙ ap (λ n. c.args.points.now ++ ticks_from (back_from sol c.args.first.0) 0 n) all
