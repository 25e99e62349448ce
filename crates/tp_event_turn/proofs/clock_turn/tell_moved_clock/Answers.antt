use Rattle.std.proofs.Common.{arith}
use Rattle.std.proofs.lemmas.Grind.{common_steps}
use Rattle.tp_event_turn.proofs.clock_turn.tell_moved_clock.Goals as goal

pub loop-tell-preserved : goal.loop-tell-preserved
loop-tell-preserved c = record {
  told = grind (arith, common_steps);
}
