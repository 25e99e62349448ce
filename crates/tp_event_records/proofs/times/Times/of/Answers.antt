-- A plan's points are one more, but where the plan is the asked copy's.
use Rattle.std.proofs.Common.{◌+◌, ◌++◌, ◌∷◌, [], drop, arith, ap, append_assoc, sym, ◌∙◌}
use Rattle.std.proofs.lemmas.List.{append-nil, drop_all}
use Rattle.tp_event_records.specs.RecordNames.{others, points_of}
use Rattle.tp_event_records.proofs.MoveSteps.{keeps, others-nil, passes}
use Rattle.tp_event_records.proofs.times.Times.of.Goals as goal
use Rattle.tp_event_records.proofs.times.Times.of.Goals.{then-not-is_of+in_ok-push, else-not-is_of}

pub plans-preserved : goal.plans-preserved
plans-preserved c =
    let plans = c.args.schedule.now.plans in
    let asked = c.args.asked in
    let p = c.plan_at-plan.result.now in
    let here = c.plan_at-plan.ensures.plan in
    let later = points_of (others asked (drop (c.plans.at + 1) plans)) in
    elim c.if-not-is_of.branch [
      | then-not-is_of+in_ok-push w ↦
          rw w.times-is
          (ap (λ ts. ts ++ later) w.in_ok-push.ensures ∙ append_assoc c.plans.times (p.points ∷ []) later
          ∙ ap (λ ts. c.plans.times ++ ts) (sym (ap points_of (keeps asked plans c.plans.at p here (sym w.if-not-is_of.ensures)))) ∙ c.plans.invariant)
      | else-not-is_of w ↦
          rw w.times-is (ap (λ ps. c.plans.times ++ points_of ps) (sym (passes asked plans c.plans.at p here (sym w.if-not-is_of.ensures))) ∙ c.plans.invariant)
    ]

pub returns : goal.returns
returns c =
    sym (append-nil c.plans.times)
    ∙ ap (λ parts. c.plans.times ++ parts) (sym (ap (λ ps. points_of (others c.args.asked ps)) (drop_all c.plans.at c.args.schedule.now.plans (omega (arith, c.plans-test.false, c.len-at-end.ensures.len))) ∙ ap points_of (others-nil c.args.asked)))
    ∙ c.plans.invariant
