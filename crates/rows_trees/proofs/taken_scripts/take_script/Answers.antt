use Rattle.std.proofs.Common.{arith, sym, subst}
use Rattle.tp_event_rules.specs.Ready.{CanTakeEvents, KeepsStock}
use Rattle.rows_trees.proofs.taken_scripts.take_script.Goals as goal

pub lines-init : goal.lines-init
lines-init g c = record {
  served = c.requires;
  can = subst (CanTakeEvents c.args.machine.now 0) (sym c.new-state.ensures) (c.empty_state_can_begin.ensures.can c.args.machine.now);
  stocked = subst (KeepsStock c.args.machine.now 0) (sym c.new-state.ensures) (c.empty_state_can_begin.ensures.stocked c.args.machine.now);
  few = omega arith;
}
