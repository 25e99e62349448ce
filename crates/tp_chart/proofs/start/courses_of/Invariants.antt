use Rattle.std.proofs.Common.{◌≡◌, take}
use Rattle.tp_chart.specs.Starts.{ways_of}
use Rattle.tp_chart.proofs.start.courses_of.Given as goal

abbrev pub invariant-loop-plan : goal.invariant-loop-plan
invariant-loop-plan l = l.courses ≡ ways_of l.machine (take l.plan-index l.plans)
