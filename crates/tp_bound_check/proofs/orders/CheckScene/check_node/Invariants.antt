use Rattle.std.proofs.Common.{◌≡◌, ◌≤◌, length, vec_len, vec_capacity, All}
use Rattle.tp_bound_check.specs.Frames.{AreStacked}
use Rattle.tp_bound_check.specs.Looks.{due_on, IsSoundFrame}
use Rattle.tp_bound_check.specs.Ranks.{AreRankedFrames}
use Rattle.tp_bound_check.proofs.orders.CheckScene.check_node.Given as goal

abbrev pub invariant-frames : goal.invariant-frames
invariant-frames l = record {
  left : due_on l.self.rows.machine.now l.self.plans.now l.self.rows.ask.now l.self.rows.rows.now l.self.limit l.goals l.initial.stack.items ≡ due_on l.self.rows.machine.now l.self.plans.now l.self.rows.ask.now l.self.rows.rows.now l.self.limit l.goals l.stack.items;
  sound : All (IsSoundFrame l.self.rows.machine.now) l.stack.items;
  stacked : AreStacked 0 l.stack.items;
  ranked : AreRankedFrames l.self.rows.machine.now l.self.plans.now l.ranks.before l.stack.items;
  few : length l.stack.items ≤ 322;
  room : 322 ≤ vec_capacity l.stack;
}

abbrev pub decreases-frames : goal.decreases-frames
decreases-frames l = vec_len l.stack
