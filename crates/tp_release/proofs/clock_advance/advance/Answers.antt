-- The schedule after the move is what is left of it, with the due actions released.
use Rattle.std.proofs.Common.{◌≡◌, ◌∙◌, ap, filter, sym, subst, arith}
use Rattle.tp_schedule.specs.Answers.{KeepsFloors, KeepsHorizon}
use Rattle.tp_schedule.specs.Legality.{IsLegal}
use Rattle.tp_schedule.specs.LivePlans.{is_live}
use Rattle.tp_schedule.specs.PlannerAnswers.{none_exempt}
use Rattle.tp_release.proofs.PlansAfter.{floors-after, horizon-after, legal-after, plans_after}
use Rattle.tp_release.proofs.clock_advance.advance.Goals as goal
use Rattle.tp_release.proofs.clock_advance.advance.Goals.{After-forget}

after : (k : After-forget) → k.forget.new.self.plans ≡ plans_after k.args.machine.now k.args.to k.args.schedule.now.plans
after k = k.forget.ensures.plans ∙ ap (filter (is_live k.args.machine.now k.args.to)) k.release_all.ensures.plans

pub returns-clause-legal : goal.returns-clause-legal
returns-clause-legal c = subst (IsLegal c.args.machine.now) (sym (after (goal.at.returns-clause-legal c).After-forget)) (legal-after c.args.machine.now c.args.to c.args.schedule.now.plans c.requires.legal)

pub returns-clause-floors : goal.returns-clause-floors
returns-clause-floors c =
    subst (KeepsFloors c.args.machine.now c.args.to none_exempt) (sym (after (goal.at.returns-clause-floors c).After-forget)) (floors-after c.args.machine.now c.args.to c.args.schedule.now.plans c.requires.legal)

pub returns-clause-horizon : goal.returns-clause-horizon
returns-clause-horizon c = λ horizon.
    let later = c.if-to-now.false in
    subst (KeepsHorizon c.args.machine.now c.args.to) (sym (after (goal.at.returns-clause-horizon c).After-forget))
    (horizon-after c.args.machine.now c.args.now c.args.to c.args.schedule.now.plans (omega arith) horizon)
