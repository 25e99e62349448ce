-- The last action of a plan in time is the machine's, and leads to a location.
use Rattle.std.proofs.Common.{◌≡◌, ◌-◌, Some, arith, ap, sym, subst, ◌∙◌}
use Rattle.tp_base.proofs.SliceFacts.{All-at}
use Rattle.tp_machine.specs.ModuleUse.{action_at}
use Rattle.tp_event_records.specs.RecordNames.{IsKnown}
use Rattle.tp_event_records.proofs.NameFacts.{acts-known, end-is, last-is}
use Rattle.tp_event_rules.specs.Labels.{last_of, location_name}
use Rattle.tp_event_records.proofs.labels.end_name.Goals as goal

pub get-action-requires : goal.get-action-requires
get-action-requires c =
    let known : IsKnown c.args.machine.now c.get-last.result = All-at (IsKnown c.args.machine.now) c.args.plan.now.acts (c.len.result - 1) c.get-last.result (acts-known c.args.machine.now c.args.plan.now c.requires) c.get-last.ensures in
    omega (arith, known, c.from.ensures)

pub returns : goal.returns
returns c =
    let last : last_of c.args.plan.now.acts ≡ c.get-last.result = last-is c.args.plan.now.acts (c.len.result - 1) c.get-last.result (omega (arith, c.len.ensures.len, c.requires.some)) c.get-last.ensures in
    c.location_name.ensures
    ∙ ap (location_name c.args.machine.now)
    (sym (end-is c.args.machine.now c.args.plan.now c.get-last.result c.get-action.result.now last
    (subst (λ n. action_at c.args.machine.now n ≡ Some c.get-action.result.now) c.from.ensures c.get-action.ensures)))
