-- A plan is given by its record, and a none by its tree.
use Rattle.std.proofs.Common.{◌≡◌, ◌∷◌, ◌∙◌, length, subst, sym}
use Rattle.tp_log.specs.declared.item.Item.TheVariants.{Note}
use Rattle.tp_schedule.specs.PlannerAnswers.Due.{asking}
use Rattle.tp_schedule.specs.declared.parts.Reply.TheVariants.{Never, Spent}
use Rattle.tp_log_planner.specs.TakenAnswers.{DoTellPlan, TakesAnswer}
use Rattle.tp_log_planner.specs.ToldAnswers.{TellsDue}
use Rattle.tp_schedule.specs.declared.records.Record.TheVariants.{Never as TellsNever}
use Rattle.tp_bound_laws.specs.declared.claim.Claim.TheVariants.{Never as NeverClaim}
use Rattle.tp_event_rules.specs.AnswerRecords.{label_of_asked}
use Rattle.tp_event_rules.specs.Labels.{goal_name}
use Rattle.tp_log_planner.specs.Reasons.{IsAskedReason, IsFrom, IsTreeDue, IsTreeReason}
use Rattle.tp_log_planner.proofs.ReasonFacts.{stop-from, tree-reason}
use Rattle.tp_log_planner.proofs.PlaceFacts.{first-is}
use Rattle.tp_log_planner.proofs.ReplyFacts.{head-of, never-taken, plan-due}
use Rattle.tp_log_planner.proofs.TreeFacts.{denies-from}
use Rattle.tp_log_planner.proofs.told_answer.take_told.Goals as goal

pub returns-in-Err-clause-refused : goal.returns-in-Err-clause-refused
returns-in-Err-clause-refused c =
    let m = c.args.machine.now in
    let plans = c.args.schedule.now.plans in
    let ask = c.args.ask.now in
    let told = c.args.told.now in
    let later = c.args.later.now in
    let first = first-is told later c.requires.first in
    let is = c.in-Plan.is in
    denies-from (DoTellPlan m plans ask (Note told ∷ later)) (TellsDue m plans (Note told ∷ later) (asking ask)) c.in-Err.failure
    (plan-due m plans ask (Note told ∷ later)
    (λ others rest tells. (let h = head-of m plans ask told later first Never others rest tells in absurd cc))
    (λ bound others rest tells. (let h = head-of m plans ask told later first (Spent bound) others rest tells in absurd cc)))
    c.in-Err.ensures.refused

pub returns-in-Ok-take_tree-clause-told : goal.returns-in-Ok-take_tree-clause-told
returns-in-Ok-take_tree-clause-told c =
    let m = c.args.machine.now in
    let plans = c.args.schedule.now.plans in
    let ask = c.args.ask.now in
    subst (λ r. TakesAnswer m plans ask (Note r ∷ c.args.later.now) Never plans 2) (sym c.in-Never.is)
    (never-taken m plans ask c.in-Never.sheet c.in-Never.goal c.args.later.now (c.is_about-about.ensures.0 c.if-not-about.false) c.in-Ok-take_tree.ensures.shown
    (c.in-Ok-take_tree.ensures.told c.requires.can.plan_on.legal c.requires.can.asked))

pub returns-in-Err-take_tree-clause-why : goal.returns-in-Err-take_tree-clause-why
returns-in-Err-take_tree-clause-why c =
    let m = c.args.machine.now in
    let plans = c.args.schedule.now.plans in
    let ask = c.args.ask.now in
    let told = c.args.told.now in
    let later = c.args.later.now in
    let items = Note told ∷ later in
    let about = c.is_about-about.ensures.0 c.if-not-about.false in
    let never : told ≡ TellsNever (label_of_asked ask) (goal_name m ask.goal) = c.in-Never.is ∙ (λ k. TellsNever (about.0 k) (about.1 k)) in
    let due : IsTreeDue m plans ask items NeverClaim later = λ k. Note (never k) ∷ later in
    stop-from (IsFrom (length later) (IsTreeReason m plans ask NeverClaim later)) (IsAskedReason m plans ask items) c.in-Err-take_tree.failure
    (λ n r h. tree-reason m plans ask NeverClaim items later due n h.0 r h.1) c.in-Err-take_tree.ensures.why
