use Rattle.std.proofs.Common.{◌≡◌, ◌++◌, length}
use Rattle.tp_farm.specs.Numbered.{numbered}
use Rattle.tp_farm.proofs.dispatch.put_numbered.Given as goal

abbrev pub invariant-lines : goal.invariant-lines
invariant-lines l = l.out.items ++ numbered l.number l.rest ≡ l.initial.out.items ++ numbered l.number l.text

abbrev pub decreases-lines : goal.decreases-lines
decreases-lines l = length l.rest
