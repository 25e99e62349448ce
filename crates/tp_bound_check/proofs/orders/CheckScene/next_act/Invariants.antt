use Rattle.std.proofs.Common.{◌≡◌, length}
use Rattle.std.specs.Prelude.{IfSome}
use Rattle.tp_bound_check.specs.Looks.{IsActOf, acts_at}
use Rattle.tp_bound_check.proofs.LinkFacts.{ahead}
use Rattle.tp_bound_check.proofs.orders.CheckScene.next_act.Given as goal

abbrev pub invariant-acts : goal.invariant-acts
invariant-acts l = record {
  left : acts_at l.self.rows.machine.now l.self.plans.now l.self.rows.ask.now l.self.rows.rows.now l.self.limit l.branch l.fn.from ≡ acts_at l.self.rows.machine.now l.self.plans.now l.self.rows.ask.now l.self.rows.rows.now l.self.limit l.branch l.cursor;
  there : IfSome l.cursor (IsActOf l.self.rows.machine.now l.branch);
}

abbrev pub decreases-acts : goal.decreases-acts
decreases-acts l = ahead (length l.self.rows.machine.now.actions) l.cursor
