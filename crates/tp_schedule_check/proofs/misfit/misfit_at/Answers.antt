use Rattle.std.proofs.Common.{sym, subst, to_z, of_z, w64}
use Rattle.std.specs.Prelude.{pos, ◌≤ℤ◌}
use Rattle.tp_schedule_check.proofs.MisfitFacts.{between-kept, does-fit, is-misfit, unknown-fits}
use Rattle.tp_schedule_check.proofs.misfit.misfit_at.Goals as goal

pub returns-in-Some-limit_of : goal.returns-in-Some-limit_of
returns-in-Some-limit_of c =
    is-misfit c.args.machine.now c.args.plan.now c.args.at c.get-id.result c.in-Some.action.now c.get-start.result c.get-end.result (to_z w64 (of_z w64 c.lasting-lasts.result)) c.in-Some-limit_of.limit
    c.get-id.ensures (sym c.in-Some.ensures) c.get-start.ensures c.get-end.ensures
    (between-kept c.lasting-lasts.result c.get-start.result c.get-end.result c.get-start.type_inv c.get-end.type_inv c.lasting-lasts.ensures) c.in-Some-limit_of.ensures

pub returns-in-None-limit_of : goal.returns-in-None-limit_of
returns-in-None-limit_of c =
    let is = between-kept c.lasting-lasts.result c.get-start.result c.get-end.result c.get-start.type_inv c.get-end.type_inv c.lasting-lasts.ensures in
    does-fit c.args.machine.now c.args.plan.now c.args.at c.get-id.result c.in-Some.action.now c.get-start.result c.get-end.result
    c.get-id.ensures (sym c.in-Some.ensures) c.get-start.ensures c.get-end.ensures
    (subst (λ z. pos c.in-Some.action.now.least ≤ℤ z) is c.in-None-limit_of.ensures.0) (subst (λ z. z ≤ℤ pos c.in-Some.action.now.most) is c.in-None-limit_of.ensures.1)

pub returns-in-None : goal.returns-in-None
returns-in-None c = unknown-fits c.args.machine.now c.args.plan.now c.args.at c.get-id.result c.get-id.ensures (sym c.in-None.ensures)
