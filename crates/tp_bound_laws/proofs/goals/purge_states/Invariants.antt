use Rattle.std.proofs.Common.{◌≡◌}
use Rattle.tp_bound_laws.proofs.PurgeStates.{purges_below}
use Rattle.tp_bound_laws.proofs.goals.purge_states.Given as goal

abbrev pub invariant-locations : goal.invariant-locations
invariant-locations l = l.states.items ≡ purges_below l.machine l.sheet l.at
