use Rattle.std.proofs.Common.{refl, subst, sym}
use Rattle.std.specs.Prelude.{IsNone}
use Rattle.tp_schedule_check.proofs.AnswerFacts.{plans-of, right-times}
use Rattle.tp_schedule_check.proofs.fault.find_fault.Goals as goal

pub returns-in-Some-clause-right : goal.returns-in-Some-clause-right
returns-in-Some-clause-right c = (
  λ e. absurd cc,
  λ right. subst (λ o. IsNone o) c.in-Some.is (c.find_in_plans.ensures.right.1 (plans-of c.args.machine.now c.args.before.now.plans c.args.after.now.plans c.args.ask.now c.requires.legal c.ordered.ensures.ordered.in_order right)),
)

pub returns-clause-right : goal.returns-clause-right
returns-clause-right c =
    right-times c.args.machine.now c.args.before.now.plans c.args.after.now.plans c.args.ask.now c.requires.legal c.ordered.ensures.ordered.in_order
    (c.find_in_plans.ensures.right.0 (subst (λ o. IsNone o) (sym c.in-None.is) refl)) c.exempt_of.result c.exempt_of.ensures c.find_in_times.result c.find_in_times.ensures.right
