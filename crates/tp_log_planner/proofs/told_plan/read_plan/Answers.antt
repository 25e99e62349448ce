use Rattle.std.proofs.lemmas.Grind.{common_steps}
-- What is read makes one plan, and no other right one is given.
use Rattle.std.proofs.Common.{◌≡◌, ◌++◌, ◌∙◌, All, ap, subst, sym, arith}
use Rattle.std.specs.Prelude.{IfSome, option_copied}
use Rattle.tp_schedule.specs.Answers.{AnswersAsk, acts_in}
use Rattle.tp_schedule.specs.Plans.{IsFormed, plan_of}
use Rattle.tp_schedule.specs.declared.parts.Plan.{Plan}
use Rattle.tp_schedule.specs.declared.records.Record.TheVariants.{Plan as TellsPlan}
use Rattle.tp_event_records.specs.RecordNames.{IsKnown}
use Rattle.tp_event_rules.specs.AnswerRecords.{label_of_asked}
use Rattle.tp_event_rules.specs.Labels.{end_location, location_name}
use Rattle.tp_log_planner.specs.ToldPlans.{AreMismatched, DoFit, IsToldPlan, TellsNoForm, plan_with}
use Rattle.tp_log_planner.specs.Breaches.{IsUnfit}
use Rattle.tp_log_planner.proofs.FormFacts.{elsewhere, mismatched, no-answer-read, unnamed}
use Rattle.tp_log_planner.proofs.ReasonFacts.{off-by}
use Rattle.tp_log_planner.proofs.PlanFacts.{fits, is-made, made-formed, made-told, made-known, read-from, told-of}
use Rattle.tp_log_planner.proofs.told_plan.read_plan.Goals as goal

pub returns-in-Some-clause-told : goal.returns-in-Some-clause-told
returns-in-Some-clause-told c = λ q timed t. (
    let machine = c.args.machine.now in
    let plans = c.args.before.now.plans in
    let ask = c.args.ask.now in
    let front = c.plan_of-front.ensures.plan in
    let formed = subst (λ o. IfSome o IsFormed) front c.plan_of-front.ensures.formed in
    let of = told-of machine plans ask c.requires.asked formed c.args.place.now c.args.points.now c.args.names.now q timed t in
    c.in-Some.ensures.fit (subst (λ o. DoFit o c.args.points.now c.args.names.now) (sym front) (fits machine plans ask c.requires.asked formed c.args.place.now c.args.points.now c.args.names.now q of)))

pub returns-in-Some-clause-why : goal.returns-in-Some-clause-why
returns-in-Some-clause-why c =
    let plans = c.args.before.now.plans in
    let ask = c.args.ask.now in
    let points = c.args.points.now in
    let names = c.args.names.now in
    let none = mismatched c.args.machine.now plans ask c.requires.asked c.args.place.now points names in
    off-by (AreMismatched points names) (TellsNoForm c.args.machine.now plans ask (TellsPlan (label_of_asked ask) c.args.place.now points names))
    (IsUnfit (option_copied c.plan_of-front.result) points names) (IsUnfit (plan_of ask.sheet plans) points names) none
    (λ a b unfit. subst (λ o. IsUnfit o points names a b) c.plan_of-front.ensures.plan unfit) c.in-Some.reason c.in-Some.ensures.why

pub returns-then-not-named-clause-why : goal.returns-then-not-named-clause-why
returns-then-not-named-clause-why c =
    unnamed c.args.machine.now c.args.before.now.plans c.args.ask.now c.requires.asked c.args.place.now c.args.points.now c.args.names.now c.if-not-named.ensures

pub returns-then-not-answers-clause-why : goal.returns-then-not-answers-clause-why
returns-then-not-answers-clause-why c =
    let machine = c.args.machine.now in
    let plans = c.args.before.now.plans in
    let ask = c.args.ask.now in
    let named = c.if-not-named.ensures in
    let made : c.make_plan-plan.result ≡ plan_with ask (plan_of ask.sheet plans) (acts_in (plan_of ask.sheet plans) ++ named.0) c.args.points.now =
    c.make_plan-plan.ensures ∙ ap (λ acts. plan_with ask (option_copied c.plan_of-front.result) acts c.args.points.now) (named.1 ∙ ap (λ acts. acts ++ named.0) c.kept_acts-acts.ensures)
    ∙ ap (λ o. plan_with ask o (acts_in o ++ named.0) c.args.points.now) c.plan_of-front.ensures.plan in
    no-answer-read machine plans ask c.requires.asked c.args.place.now c.args.points.now c.args.names.now c.machine_law.ensures named.0 named.2 (λ answers. (
    let yes = c.answers_ask-answers.ensures.1 (subst (AnswersAsk machine plans ask) (sym made) answers) in
    let no = c.if-not-answers.true in
    absurd cc))

pub returns-then-not-ends-clause-why : goal.returns-then-not-ends-clause-why
returns-then-not-ends-clause-why c =
    let machine = c.args.machine.now in
    let plans = c.args.before.now.plans in
    let ask = c.args.ask.now in
    let named = c.if-not-named.ensures in
    let made : c.make_plan-plan.result ≡ plan_with ask (plan_of ask.sheet plans) (acts_in (plan_of ask.sheet plans) ++ named.0) c.args.points.now =
    c.make_plan-plan.ensures ∙ ap (λ acts. plan_with ask (option_copied c.plan_of-front.result) acts c.args.points.now) (named.1 ∙ ap (λ acts. acts ++ named.0) c.kept_acts-acts.ensures)
    ∙ ap (λ o. plan_with ask o (acts_in o ++ named.0) c.args.points.now) c.plan_of-front.ensures.plan in
    elsewhere machine plans ask c.requires.asked c.args.place.now c.args.points.now c.args.names.now c.machine_law.ensures named.0 named.2 (λ at. (
    let ends : c.end_name.result ≡ c.args.place.now = c.end_name.ensures ∙ ap (λ p. location_name machine (end_location machine p)) made ∙ at in
    let yes = c.is_same_name-ends.ensures.1 ends in
    let no = c.if-not-ends.true in
    absurd cc))

pub returns-then-not-named-clause-told : goal.returns-then-not-named-clause-told
returns-then-not-named-clause-told c = λ q timed t. (
    let formed = subst (λ o. IfSome o IsFormed) c.plan_of-front.ensures.plan c.plan_of-front.ensures.formed in
    let of = told-of c.args.machine.now c.args.before.now.plans c.args.ask.now c.requires.asked formed c.args.place.now c.args.points.now c.args.names.now q timed t in
    c.if-not-named.ensures of.route of.have)

pub returns-then-not-answers-clause-told : goal.returns-then-not-answers-clause-told
returns-then-not-answers-clause-told c = λ q timed t. (
    let machine = c.args.machine.now in
    let plans = c.args.before.now.plans in
    let ask = c.args.ask.now in
    let front = c.plan_of-front.ensures.plan in
    let formed = subst (λ o. IfSome o IsFormed) front c.plan_of-front.ensures.formed in
    let named = c.if-not-named.ensures in
    let fit = subst (λ o. DoFit o c.args.points.now c.args.names.now) front c.in-None.ensures.fit in
    let read = read-from machine plans ask c.args.names.now c.args.points.now named.0 c.requires.asked formed fit named.2 in
    let made : c.make_plan-plan.result ≡ plan_with ask (plan_of ask.sheet plans) (acts_in (plan_of ask.sheet plans) ++ named.0) c.args.points.now =
    c.make_plan-plan.ensures ∙ ap (λ acts. plan_with ask (option_copied c.plan_of-front.result) acts c.args.points.now) (named.1 ∙ ap (λ acts. acts ++ named.0) c.kept_acts-acts.ensures)
    ∙ ap (λ o. plan_with ask o (acts_in o ++ named.0) c.args.points.now) front in
    let is : q ≡ c.make_plan-plan.result = is-made machine plans ask c.requires.asked formed c.args.place.now c.args.points.now c.args.names.now named.0 read c.machine_law.ensures q timed t ∙ sym made in
    let yes = c.answers_ask-answers.ensures.1 (subst (AnswersAsk machine plans ask) is t.good.answers) in
    let no = c.if-not-answers.true in
    absurd cc)

pub end_name-requires-clause-formed : goal.end_name-requires-clause-formed
end_name-requires-clause-formed c =
    let machine = c.args.machine.now in
    let plans = c.args.before.now.plans in
    let ask = c.args.ask.now in
    let front = c.plan_of-front.ensures.plan in
    let formed = subst (λ o. IfSome o IsFormed) front c.plan_of-front.ensures.formed in
    let named = c.if-not-named.ensures in
    let fit = subst (λ o. DoFit o c.args.points.now c.args.names.now) front c.in-None.ensures.fit in
    let read = read-from machine plans ask c.args.names.now c.args.points.now named.0 c.requires.asked formed fit named.2 in
    let made : c.make_plan-plan.result ≡ plan_with ask (plan_of ask.sheet plans) (acts_in (plan_of ask.sheet plans) ++ named.0) c.args.points.now =
    c.make_plan-plan.ensures ∙ ap (λ acts. plan_with ask (option_copied c.plan_of-front.result) acts c.args.points.now) (named.1 ∙ ap (λ acts. acts ++ named.0) c.kept_acts-acts.ensures)
    ∙ ap (λ o. plan_with ask o (acts_in o ++ named.0) c.args.points.now) front in
    subst IsFormed (sym made) (made-formed machine plans ask c.requires.asked formed c.args.place.now c.args.points.now c.args.names.now named.0 read)

pub end_name-requires-clause-known : goal.end_name-requires-clause-known
end_name-requires-clause-known c =
    let machine = c.args.machine.now in
    let plans = c.args.before.now.plans in
    let ask = c.args.ask.now in
    let named = c.if-not-named.ensures in
    let acts : c.make_plan-plan.result.acts ≡ acts_in (plan_of ask.sheet plans) ++ named.0 =
    ap (λ (p : Plan). p.acts) c.make_plan-plan.ensures ∙ named.1 ∙ ap (λ acts. acts ++ named.0) (c.kept_acts-acts.ensures ∙ ap acts_in c.plan_of-front.ensures.plan) in
    subst (All (IsKnown machine)) (sym acts) (made-known machine plans ask named.0 c.requires.legal named.2.known)

pub returns-then-not-ends-clause-told : goal.returns-then-not-ends-clause-told
returns-then-not-ends-clause-told c = λ q timed t. (
    let machine = c.args.machine.now in
    let plans = c.args.before.now.plans in
    let ask = c.args.ask.now in
    let front = c.plan_of-front.ensures.plan in
    let formed = subst (λ o. IfSome o IsFormed) front c.plan_of-front.ensures.formed in
    let named = c.if-not-named.ensures in
    let fit = subst (λ o. DoFit o c.args.points.now c.args.names.now) front c.in-None.ensures.fit in
    let read = read-from machine plans ask c.args.names.now c.args.points.now named.0 c.requires.asked formed fit named.2 in
    let made : c.make_plan-plan.result ≡ plan_with ask (plan_of ask.sheet plans) (acts_in (plan_of ask.sheet plans) ++ named.0) c.args.points.now =
    c.make_plan-plan.ensures ∙ ap (λ acts. plan_with ask (option_copied c.plan_of-front.result) acts c.args.points.now) (named.1 ∙ ap (λ acts. acts ++ named.0) c.kept_acts-acts.ensures)
    ∙ ap (λ o. plan_with ask o (acts_in o ++ named.0) c.args.points.now) front in
    let is : q ≡ c.make_plan-plan.result = is-made machine plans ask c.requires.asked formed c.args.place.now c.args.points.now c.args.names.now named.0 read c.machine_law.ensures q timed t ∙ sym made in
    let of = told-of machine plans ask c.requires.asked formed c.args.place.now c.args.points.now c.args.names.now q timed t in
    let ends : c.end_name.result ≡ c.args.place.now = c.end_name.ensures ∙ ap (λ p. location_name machine (end_location machine p)) (sym is) ∙ of.ends in
    let yes = c.is_same_name-ends.ensures.1 ends in
    let no = c.if-not-ends.true in
    absurd cc)

pub returns-clause-told : goal.returns-clause-told
returns-clause-told c =
    let machine = c.args.machine.now in
    let plans = c.args.before.now.plans in
    let ask = c.args.ask.now in
    let front = c.plan_of-front.ensures.plan in
    let formed = subst (λ o. IfSome o IsFormed) front c.plan_of-front.ensures.formed in
    let named = c.if-not-named.ensures in
    let fit = subst (λ o. DoFit o c.args.points.now c.args.names.now) front c.in-None.ensures.fit in
    let read = read-from machine plans ask c.args.names.now c.args.points.now named.0 c.requires.asked formed fit named.2 in
    let made : c.make_plan-plan.result ≡ plan_with ask (plan_of ask.sheet plans) (acts_in (plan_of ask.sheet plans) ++ named.0) c.args.points.now =
    c.make_plan-plan.ensures ∙ ap (λ acts. plan_with ask (option_copied c.plan_of-front.result) acts c.args.points.now) (named.1 ∙ ap (λ acts. acts ++ named.0) c.kept_acts-acts.ensures)
    ∙ ap (λ o. plan_with ask o (acts_in o ++ named.0) c.args.points.now) front in
    let answers : AnswersAsk machine plans ask (plan_with ask (plan_of ask.sheet plans) (acts_in (plan_of ask.sheet plans) ++ named.0) c.args.points.now) = subst (AnswersAsk machine plans ask) made (c.answers_ask-answers.ensures.0 c.if-not-answers.false) in
    let ends : c.end_name.result ≡ c.args.place.now = c.is_same_name-ends.ensures.0 c.if-not-ends.false in
    let ends' = ap (λ p. location_name machine (end_location machine p)) (sym made) ∙ sym c.end_name.ensures ∙ ends in
    record {
      told_plan = subst (IsToldPlan machine plans ask (TellsPlan (label_of_asked ask) c.args.place.now c.args.points.now c.args.names.now)) (sym made)
          (made-told machine plans ask c.requires.asked formed c.args.place.now c.args.points.now c.args.names.now named.0 read answers ends');
      only = λ q timed t. is-made machine plans ask c.requires.asked formed c.args.place.now c.args.points.now c.args.names.now named.0 read c.machine_law.ensures q timed t ∙ sym made;
    }

pub make_plan-plan-requires-clause-room : goal.make_plan-plan-requires-clause-room
make_plan-plan-requires-clause-room c = grind (arith, common_steps)
