use Rattle.std.proofs.Common.{◌↔◌, ◌∙◌, List, IsTrue, subst}
use Rattle.std.specs.Prelude.{IfOk}
use Rattle.tp_schedule.specs.Answers.{IsLeast}
use Rattle.tp_schedule.specs.PlannerAnswers.{none_exempt}
use Rattle.tp_schedule.specs.declared.parts.Plan.{Plan}
use Rattle.tp_snapshot_rules.proofs.schedule.keeps_times.Goals as goal

pub returns : goal.returns
returns c =
    subst (λ (plans : List Plan). IfOk c.is_least.result (λ kept. IsTrue kept ↔ IsLeast c.args.machine.now c.args.standing.now.now none_exempt plans)) (c.in_ok-schedule.ensures ∙ c.as_slice.ensures) c.is_least.ensures
