use Rattle.std.proofs.Common.{◌≤◌, length}
use Rattle.tp_bound_check.specs.Links.{AreLinked}
use Rattle.tp_bound_check.proofs.links.link.Given as goal

abbrev pub invariant-numbers : goal.invariant-numbers
invariant-numbers l = record {
  within : l.at ≤ length l.locations;
  linked : AreLinked l.locations l.firsts l.nexts l.at;
}

abbrev pub decreases-numbers : goal.decreases-numbers
decreases-numbers l = l.at
