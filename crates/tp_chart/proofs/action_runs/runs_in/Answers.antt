use Rattle.std.proofs.Common.{arith}
use Rattle.std.proofs.lemmas.Grind.{common_steps}
use Rattle.tp_chart.proofs.action_runs.runs_in.Goals as goal

pub runs-preserved : goal.runs-preserved
runs-preserved c = grind (arith, common_steps)
