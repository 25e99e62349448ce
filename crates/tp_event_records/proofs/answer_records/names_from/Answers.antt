-- One name more is that of the next action.
use Rattle.std.proofs.Common.{◌≡◌, ◌++◌, ◌∷◌, [], length, arith, ap, ◌∙◌}
use Rattle.std.proofs.lemmas.List.{length-append}
use Rattle.tp_event_records.proofs.ListSteps.{one_more}
use Rattle.tp_event_rules.specs.Labels.{action_name}
use Rattle.tp_event_records.proofs.answer_records.names_from.Goals as goal

pub loop-at-preserved : goal.loop-at-preserved
loop-at-preserved c =
    let pushed : c.push.new.self ≡ c.loop-at.items ++ action_name c.args.machine.now c.get.result ∷ [] = c.in_ok-push.ensures.ok ∙ ap (λ name. c.loop-at.items ++ name ∷ []) c.action_name.ensures in
    record {
      rest = rw pushed (one_more (action_name c.args.machine.now) c.args.acts.now c.loop-at.at c.get.result c.loop-at.items _ c.get.ensures c.loop-at.invariant.rest);
      few = omega (arith, ap length pushed ∙ length-append c.loop-at.items (action_name c.args.machine.now c.get.result ∷ []), c.loop-at.invariant.few);
    }
