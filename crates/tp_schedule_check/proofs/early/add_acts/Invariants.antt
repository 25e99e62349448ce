use Rattle.std.proofs.Common.{◌≡◌, ◌++◌, ◌+◌, drop}
use Rattle.tp_schedule_check.specs.Early.{acts_steps}
use Rattle.tp_schedule_check.proofs.early.add_acts.Given as goal

abbrev pub invariant-acts : goal.invariant-acts
invariant-acts l = l.steps.items ++ acts_steps l.machine (l.number + l.at) (drop l.at l.plan.acts) (drop l.at l.plan.points) ≡ l.fn.steps.items ++ acts_steps l.machine l.number l.plan.acts l.plan.points
