use Rattle.std.proofs.Common.{◌≡◌, ◌++◌, filter, take}
use Rattle.tp_bound_laws.specs.Places.{is_done_wanted}
use Rattle.tp_bound_laws.proofs.goals.put_states.Given as goal

abbrev pub invariant-states : goal.invariant-states
invariant-states l = l.states.items ≡ l.fn.states.items ++ filter (is_done_wanted l.sheet) (take l.at l.some)
