use Rattle.std.proofs.Common.{arith, sym, subst}
use Rattle.tp_session_standing.specs.Sound.{last_number}
use Rattle.tp_event_rules.proofs.ReadyTurns.{events-more}
use Rattle.tp_event_rules.proofs.StockKept.{stock-more}
use Rattle.tp_event_rules.specs.LiveStates.{seen}
use Rattle.tp_event_rules.specs.Ready.{CanTakeEvents, KeepsStock}
use Rattle.tp_session.proofs.session.SessionOver.over.Goals as goal

pub invariant_of-result : goal.invariant_of-result
invariant_of-result g c = record {
  serves = c.in_ok-engine.ensures.serves;
  nodes = c.in_ok-engine.ensures.nodes;
  bounds = c.in_ok-engine.ensures.bounds.0;
  no_trees = c.in_ok-engine.ensures.bounds.1;
  can = events-more c.args.machine 0 last_number (seen c.new-2.result) (omega arith) (subst (CanTakeEvents c.args.machine 0) (sym c.new-2.ensures) (c.empty_state_can_begin.ensures.can c.args.machine));
  stocked = stock-more c.args.machine 0 2 (seen c.new-2.result) (omega arith) (subst (KeepsStock c.args.machine 0) (sym c.new-2.ensures) (c.empty_state_can_begin.ensures.stocked c.args.machine));
  within = omega arith;
}
