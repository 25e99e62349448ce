use Rattle.std.proofs.Common.{◌≡◌, ◌++◌, drop}
use Rattle.tp_chart.specs.Starts.{out_spans}
use Rattle.tp_chart.proofs.start.outages_of.Given as goal

abbrev pub invariant-modules : goal.invariant-modules
invariant-modules l = l.outages.items ++ out_spans l.outs l.moment l.at (drop l.at l.modules) ≡ out_spans l.outs l.moment 0 l.modules
