use Rattle.std.proofs.Common.{◌≡◌, ◌++◌, drop, flat_map}
use Rattle.tp_schedule_check.specs.Early.{pair_steps}
use Rattle.tp_schedule_check.proofs.early.add_lines.Given as goal

abbrev pub invariant-pairs : goal.invariant-pairs
invariant-pairs l = l.steps.items ++ flat_map pair_steps (drop l.at l.pairs) ≡ l.fn.steps.items ++ flat_map pair_steps l.pairs
