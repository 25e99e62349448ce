use Rattle.std.proofs.Common.{arith}
use Rattle.std.proofs.lemmas.Grind.{common_steps}
use Rattle.tp_snapshot.proofs.Seen.{seen}
use Rattle.tp_snapshot.proofs.plans.points_value.Goals as goal

pub points-preserved : goal.points-preserved
points-preserved c = grind (arith, common_steps, seen)
