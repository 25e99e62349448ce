use Rattle.std.proofs.Common.{◌≡◌, ◌++◌, take}
use Rattle.std.specs.List.{flat_map}
use Rattle.tp_chart.specs.Titles.{out_text}
use Rattle.tp_chart.proofs.title.put_outs.Given as goal

abbrev pub invariant-loop-outage : goal.invariant-loop-outage
invariant-loop-outage l = l.out.items ≡ l.fn.out.items ++ flat_map (out_text l.machine) (take l.outage-index l.outages)
