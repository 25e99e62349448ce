use Rattle.std.proofs.Common.{◌≡◌, map, take}
use Rattle.tp_event_rules.specs.Labels.{action_name}
use Rattle.tp_chart.proofs.course.names_of.Given as goal

abbrev pub invariant-loop-act : goal.invariant-loop-act
invariant-loop-act l = l.names.items ≡ map (action_name l.machine) (take l.act-index l.acts)
