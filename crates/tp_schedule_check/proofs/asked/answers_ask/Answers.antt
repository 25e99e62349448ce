use Rattle.std.proofs.Common.{◌∙◌, ◌++◌, ap, sym}
use Rattle.tp_schedule_check.proofs.AskedFacts.{answers-by}
use Rattle.tp_schedule_check.proofs.asked.answers_ask.Goals as goal

pub returns-in-Some : goal.returns-in-Some
returns-in-Some c =
    let acts = sym c.as_slice.ensures.items ∙ c.in-Some.ensures ∙ ap (λ xs. xs ++ c.in-Some.route.now) c.kept_acts.ensures in
    let by = answers-by c.args.machine.now c.args.before.now.plans c.args.ask.now c.args.plan.now c.in-Some.route.now acts in
    (λ t. by.0 (c.does_answer.ensures.0 t), λ a. c.does_answer.ensures.1 (by.1 a))

pub returns-in-None : goal.returns-in-None
returns-in-None c = (λ t. absurd cc, λ a. absurd (c.in-None.ensures a.route (c.as_slice.ensures.items ∙ a.acts ∙ ap (λ xs. xs ++ a.route) (sym c.kept_acts.ensures))))
