use Rattle.std.proofs.Common.{◌≡◌, map, take}
use Rattle.tp_replan.specs.Meanings.{lost_aside}
use Rattle.tp_replan.proofs.module_out.lost_aside.Given as goal

abbrev pub invariant-loop-fate : goal.invariant-loop-fate
invariant-loop-fate l = l.others.items ≡ map lost_aside (take l.fate-index l.fates)
