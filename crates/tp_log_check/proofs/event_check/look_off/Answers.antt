use Rattle.std.proofs.Common.{ap, subst, ◌∙◌}
use Rattle.std.specs.Prelude.{IsNone}
use Rattle.tp_event_rules.specs.LiveStates.{seen}
use Rattle.tp_log_check.specs.Causes.{TellWholeTurn}
use Rattle.tp_log_check.specs.EventEntry.{entry}
use Rattle.tp_log_laws.specs.AcceptedEntries.{IsAccepted}
use Rattle.tp_log_check.proofs.RefusedLogs.{if-ok}
use Rattle.tp_log_check.proofs.event_check.look_off.Goals as goal

pub returns-clause-right : goal.returns-clause-right
returns-clause-right c =
    let after = seen c.judge-found.new.state in
    let items = c.new-told.ensures.items ∙ ap (λ v. v.items) c.replace-items.ensures.value in
    if-ok (λ found. IsNone found → IsAccepted c.args.machine.now (seen c.remember.new.self) (entry c.args.pending.now.event c.new-told.result.items) after)
    (λ found. IsNone found → TellWholeTurn c.args.machine.now (seen c.args.state.now) c.args.pending.now.event c.args.pending.now.items.items)
    c.judge-found.result c.judge-found.ensures.accepted
    (λ found accepted none. (
      after,
      subst (λ is. IsAccepted c.args.machine.now (seen c.args.state.now) (entry c.args.pending.now.event is) after) items
          (subst (λ s. IsAccepted c.args.machine.now s (entry c.args.pending.now.event c.new-told.result.items) after) c.remember.ensures.stays (accepted none)),
    ))
