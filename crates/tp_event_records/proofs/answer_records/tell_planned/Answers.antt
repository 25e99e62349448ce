-- The plan at the copy's place is the copy's, and without a place the copy has none.
use Rattle.std.proofs.Common.{◌≡◌, ◌++◌, ◌∷◌, [], Some, ap, sym, ◌∙◌}
use Rattle.std.proofs.lemmas.Option.{slice_get_within, get_or_from_slice_get}
use Rattle.tp_schedule.proofs.ChangeFacts.{plan_of-at}
use Rattle.tp_schedule.specs.Answers.{kept_of}
use Rattle.tp_schedule.specs.Plans.{plan_of}
use Rattle.tp_event_rules.specs.AnswerRecords.{told_of_plan, told_of_planned}
use Rattle.std.proofs.lemmas.List.{append-nil}
use Rattle.tp_event_records.proofs.PlaceFacts.{no-plan}
use Rattle.tp_event_records.proofs.answer_records.tell_planned.Goals as goal

pub returns-in_ok-push : goal.returns-in_ok-push
returns-in_ok-push c =
    let its : plan_of c.args.ask.now.sheet c.args.after.now.plans ≡ Some c.plan_at.result.now =
    plan_of-at c.args.ask.now.sheet c.args.after.now.plans c.in-Some.at c.plan_at.result.now (sym c.in-Some.is ∙ c.find.ensures) (slice_get_within c.args.after.now.plans c.in-Some.at c.plan_at.result.now c.plan_at.ensures.plan)
    (sym (get_or_from_slice_get c.args.after.now.plans c.in-Some.at c.plan_at.result.now c.plan_at.result.now c.plan_at.ensures.plan)) in
    c.in_ok-push.ensures.items
    ∙ ap (λ told. c.args.notes.now.items ++ told ∷ []) c.in_ok-record.ensures
    ∙ ap (λ kept. c.args.notes.now.items ++ told_of_plan c.args.machine.now kept c.plan_at.result.now ∷ []) c.kept.ensures
    ∙ ap (λ o. c.args.notes.now.items ++ told_of_planned c.args.machine.now (kept_of c.args.ask.now) o) (sym its)

pub returns-in_default : goal.returns-in_default
returns-in_default c =
    sym (ap (λ o. c.args.notes.now.items ++ told_of_planned c.args.machine.now (kept_of c.args.ask.now) o) (no-plan c.args.ask.now.sheet c.args.after.now.plans c.in_default.ensures)
    ∙ append-nil c.args.notes.now.items)
