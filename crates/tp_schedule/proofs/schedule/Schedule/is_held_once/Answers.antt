use Rattle.std.proofs.Common.{arith}
use Rattle.std.proofs.lemmas.Grind.{common_steps}
use Rattle.tp_schedule.proofs.schedule.Schedule.is_held_once.Goals as goal

pub loop-plan-preserved : goal.loop-plan-preserved
loop-plan-preserved c = record {
  count = grind (arith, common_steps);
  within = grind (arith, common_steps);
}
