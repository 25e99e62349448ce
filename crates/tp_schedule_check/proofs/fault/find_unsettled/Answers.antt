use Rattle.tp_schedule_check.proofs.AnswerFacts.{alike-of, settled-times, unlike-breaks}
use Rattle.tp_schedule_check.proofs.fault.find_unsettled.Goals as goal

pub returns-in-Some-clause-right : goal.returns-in-Some-clause-right
returns-in-Some-clause-right c = (
  λ e. absurd cc,
  λ settled. absurd (unlike-breaks c.args.before.now.plans c.args.after.now.plans c.in-Some.unlike c.in-Some.ensures (alike-of c.args.machine.now c.args.now c.args.before.now.plans c.args.after.now.plans c.requires.legal c.ordered.ensures.ordered.in_order settled)),
)

pub returns-clause-right : goal.returns-clause-right
returns-clause-right c =
    settled-times c.args.machine.now c.args.now c.args.before.now.plans c.args.after.now.plans c.requires.legal c.ordered.ensures.ordered.in_order
    c.in-None.ensures c.find_in_times.result c.find_in_times.ensures.right
