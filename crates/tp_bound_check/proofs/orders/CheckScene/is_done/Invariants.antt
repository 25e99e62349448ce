use Rattle.std.proofs.Common.{◌≡◌, vec_len, All}
use Rattle.tp_bound_check.specs.Looks.{due_on, IsSoundFrame}
use Rattle.tp_bound_check.proofs.orders.CheckScene.is_done.Given as goal

abbrev pub invariant-frames : goal.invariant-frames
invariant-frames l = record {
  left : due_on l.self.rows.machine.now l.self.plans.now l.self.rows.ask.now l.self.rows.rows.now l.self.limit l.goals l.initial.stack.items ≡ due_on l.self.rows.machine.now l.self.plans.now l.self.rows.ask.now l.self.rows.rows.now l.self.limit l.goals l.stack.items;
  sound : All (IsSoundFrame l.self.rows.machine.now) l.stack.items;
}

abbrev pub decreases-frames : goal.decreases-frames
decreases-frames l = vec_len l.stack
