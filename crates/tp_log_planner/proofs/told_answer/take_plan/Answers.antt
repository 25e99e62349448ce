-- A record that tells no plan, or one that breaks a rule by itself, tells no right answer.
use Rattle.std.proofs.Common.{ℤ, ◌∷◌, inl, inr, length, refl, rules, subst}
use Rattle.tp_log.specs.declared.item.Item.TheVariants.{Note}
use Rattle.tp_log_planner.specs.TakenAnswers.{DoTellPlan}
use Rattle.tp_log_planner.specs.Breaches.{IsOffByItself, TellsUnfit}
use Rattle.tp_log_planner.specs.Reasons.{IsAskedReason}
use Rattle.tp_log_planner.proofs.ReasonFacts.{asked-breach, wrong-stop}
use Rattle.tp_log_planner.specs.ToldPlans.{TellsNoForm}
use Rattle.tp_log_planner.proofs.DueFacts.{no-answer, no-plan}
use Rattle.tp_log_planner.proofs.TreeFacts.{denies-any}
use Rattle.tp_log_planner.specs.ToldMoves.{IsKeptPlan}
use Rattle.tp_log_planner.proofs.PlaceFacts.{breaks-none, no-plan-told}
use Rattle.tp_log_planner.proofs.told_answer.take_plan.Goals as goal

pub returns-in-Err-clause-refused : goal.returns-in-Err-clause-refused
returns-in-Err-clause-refused c = denies-any (DoTellPlan c.args.machine.now c.args.schedule.now.plans c.args.ask.now (Note c.args.told.now ∷ c.args.later.now)) c.wrong_plan.result (no-plan-told c.args.machine.now c.args.schedule.now.plans c.args.ask.now c.requires.can c.args.told.now c.args.later.now c.requires.first c.in-Err.ensures.told)

pub returns-in-Ok-Some-clause-refused : goal.returns-in-Ok-Some-clause-refused
returns-in-Ok-Some-clause-refused c =
    let m = c.args.machine.now in
    let ask = c.args.ask.now in
    let breaks : IsKeptPlan m ask.now c.exempt_of.result c.in-Ok.plan → ⊥ = rw c.in-Ok-Some.field-0-is at c.in-Ok-Some.ensures.breaks in
    denies-any (DoTellPlan m c.args.schedule.now.plans ask (Note c.args.told.now ∷ c.args.later.now)) c.wrong_plan-in-Ok-Some.result
    (breaks-none m c.args.schedule.now.plans ask c.requires.can c.args.told.now c.args.later.now c.requires.first c.in-Ok.plan c.in-Ok.ensures.told
    (subst (λ e. IsKeptPlan m ask.now e c.in-Ok.plan → ⊥) c.exempt_of.ensures breaks))

pub returns-in-Err-clause-why : goal.returns-in-Err-clause-why
returns-in-Err-clause-why c =
    let m = c.args.machine.now in
    let plans = c.args.schedule.now.plans in
    let ask = c.args.ask.now in
    let told = c.args.told.now in
    let items = Note told ∷ c.args.later.now in
    let P : ℤ → ℤ → Type 0 = TellsUnfit plans ask told in
    let Due = TellsNoForm m plans ask told in
    wrong-stop Due P (IsAskedReason m plans ask items) c.in-Err.wrong (length items) c.wrong_plan.result (search rules)
    (asked-breach Due P m plans ask items (length items) (λ none. inl (refl, no-answer m plans ask told c.args.later.now (no-plan m plans ask told c.requires.plan none))) (λ a b unfit. inl (refl, inl (record { told = told; later = c.args.later.now; is = refl; unfit = unfit })))) c.in-Err.ensures.why

pub returns-in-Ok-Some-clause-why : goal.returns-in-Ok-Some-clause-why
returns-in-Ok-Some-clause-why c =
    let m = c.args.machine.now in
    let plans = c.args.schedule.now.plans in
    let ask = c.args.ask.now in
    let told = c.args.told.now in
    let later = c.args.later.now in
    let items = Note told ∷ later in
    let P : ℤ → ℤ → Type 0 = IsOffByItself m ask.now c.exempt_of.result c.in-Ok.plan in
    wrong-stop ⊥ P (IsAskedReason m plans ask items) c.in-Ok-Some.wrong (length items) c.wrong_plan-in-Ok-Some.result (search rules)
    (asked-breach ⊥ P m plans ask items (length items) (λ none. absurd none) (λ a b off. inl (
      refl,
      inr (record {
        plan = c.in-Ok.plan;
        told = record { told = told; later = later; is = refl; only = c.in-Ok.ensures.told };
        off = subst (λ e. IsOffByItself m ask.now e c.in-Ok.plan a b) c.exempt_of.ensures off;
      }),
    ))) (rw c.in-Ok-Some.field-0-is at c.in-Ok-Some.ensures.why)

pub returns-in-Err-place_plan-clause-why : goal.returns-in-Err-place_plan-clause-why
returns-in-Err-place_plan-clause-why c = c.in-Err-place_plan.ensures.why c.args.told.now c.in-Ok.ensures.told
