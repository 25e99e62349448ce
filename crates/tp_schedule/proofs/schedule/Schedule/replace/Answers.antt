-- The plan that is written is in its form.
use Rattle.std.proofs.Common.{arith}
use Rattle.tp_schedule.proofs.ChangeFacts.{IsOrdered-change_plan}
use Rattle.tp_schedule.proofs.schedule.Schedule.replace.Goals as goal

pub invariant_of-self : goal.invariant_of-self
invariant_of-self c = (
  omega (arith, c.write_plan.ensures.len, c.self.invariant.0),
  rw c.write_plan.ensures.plans (IsOrdered-change_plan c.self.inside.plans.items c.args.plan c.self.invariant.1 c.requires.formed),
)
