-- One tick more is the next point.
use Rattle.std.proofs.Common.{◌≡◌, ◌+◌, ◌++◌, ◌∷◌, [], length, drop, arith, ap, sym, ◌∙◌, append_assoc}
use Rattle.std.proofs.lemmas.List.{length-append}
use Rattle.tp_event_records.proofs.ListSteps.{drop_from}
use Rattle.tp_event_records.proofs.answer_records.points_from.Goals as goal

pub loop-at-preserved : goal.loop-at-preserved
loop-at-preserved c =
    let pushed : c.push.new.self ≡ c.loop-at.items ++ c.get.result ∷ [] = c.in_ok-push.ensures.ok in
    record {
      rest = rw pushed (
          append_assoc c.loop-at.items (c.get.result ∷ []) (drop (c.loop-at.at + 1) c.args.points.now)
          ∙ ap (λ rest. c.loop-at.items ++ rest) (sym (drop_from c.args.points.now c.loop-at.at c.get.result c.get.ensures)) ∙ c.loop-at.invariant.rest);
      few = omega (arith, ap length pushed ∙ length-append c.loop-at.items (c.get.result ∷ []), c.loop-at.invariant.few);
    }
