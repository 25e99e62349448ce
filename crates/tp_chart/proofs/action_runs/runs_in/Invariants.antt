use Rattle.std.proofs.Common.{◌≡◌, ◌+◌, ◌++◌, length, vec_len}
use Rattle.tp_chart.specs.Bars.{runs_from}
use Rattle.tp_chart.proofs.action_runs.runs_in.Given as goal

abbrev pub decreases-runs : goal.decreases-runs
decreases-runs l = length l.rest

abbrev pub invariant-runs : goal.invariant-runs
invariant-runs l = l.runs.items ++ runs_from (vec_len l.runs + 1) l.rest l.times ≡ runs_from 1 l.acts l.points
