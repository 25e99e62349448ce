use Rattle.std.proofs.Common.{◌≡◌, ◌+◌, ◌++◌, ◌∷◌, [], length, ap, sym, ◌∙◌, arith}
use Rattle.std.proofs.lemmas.List.{length-append}
use Rattle.tp_base.proofs.LeastFacts.{earliest-is}
use Rattle.tp_schedule.specs.Times.{ticks_from}
use Rattle.tp_placing.proofs.WriteTimes.{ticks-more}
use Rattle.tp_placing.proofs.schedule_times.times_from.Goals as goal

pub push-requires : goal.push-requires
push-requires g c =
    let few = c.requires.few in
    let count = c.loop-at.invariant.count in
    record { room = omega arith }

pub loop-at-preserved : goal.loop-at-preserved
loop-at-preserved g c =
    let pushed = c.push.ensures.pushed in
    let many : length c.push.new.self ≡ c.loop-at.at + 1 = let l = ap length pushed ∙ length-append c.loop-at.points (c.earliest.result ∷ []) in let count = c.loop-at.invariant.count in omega arith in
    record {
      times = λ sol l.
          let known = c.requires.known in
          let e : c.earliest.result ≡ sol (c.args.first.0 + c.loop-at.at) = earliest-is (g.N.Network.reading.net c.args.net.now) sol (c.args.first.0 + c.loop-at.at) c.earliest.result l (omega arith) c.earliest.ensures in
          let more : c.loop-at.points ++ c.earliest.result ∷ [] ≡ ticks_from sol c.args.first.0 c.loop-at.at ++ sol (c.args.first.0 + c.loop-at.at) ∷ [] = (λ i. c.loop-at.invariant.times sol l i ++ e i ∷ []) in
          pushed ∙ more ∙ sym (ticks-more sol c.args.first.0 c.loop-at.at);
      count = many;
    }
