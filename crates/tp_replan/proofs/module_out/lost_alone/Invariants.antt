use Rattle.std.proofs.Common.{◌≡◌, map, take}
use Rattle.tp_replan.specs.Meanings.{lost_alone}
use Rattle.tp_replan.proofs.module_out.lost_alone.Given as goal

abbrev pub invariant-loop-fate : goal.invariant-loop-fate
invariant-loop-fate l = l.alone.items ≡ map lost_alone (take l.fate-index l.fates)
